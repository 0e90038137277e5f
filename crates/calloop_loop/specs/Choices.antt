-- A choice of sources with the data and the idles of its loop, which are only types. calloop keeps sources of any type behind a
-- pointer; here the loop's type names them.
use Rattle.std.proofs.Common.{ap}
use Rattle.calloop_sources.specs.sources.Meanings.{Meaning, IsHeld, seen_as}
use Rattle.calloop_loop.specs.declared.Sources.{Sources}

abbrev pub with_data : {A X I : Type 0} → A → Sources A X I
with_data a = record { held = a; of = record {}; idles = record {} }

-- The proof that a choice means what it holds, which an impl cites.
pub held_with_data : {D A P T X I : Type 0} (held : D → A) (m : Meaning D P T) (n : Meaning A P T) → IsHeld held m n
    → IsHeld (λ d. with_data {X = X} {I = I} (held d)) m (seen_as (λ s. s.held) n)
held_with_data held m n h =
    record {
      holds = λ s. h.holds s;
      keys = λ s key. h.keys s key;
      fits = λ s. h.fits s;
      needs = λ s. h.needs s;
      limit = λ s. h.limit s;
      role = λ s. h.role s;
      does = λ s v deed l t. (
        λ w. let u = (h.does s v deed l t.held).0 w in (u.0, ap (λ a. with_data a) u.1, u.2),
        λ u. (h.does s v deed l t.held).1 (u.0, ap (λ r. r.held) u.1, u.2),
      );
    }
