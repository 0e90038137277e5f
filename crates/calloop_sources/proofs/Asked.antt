-- What a source of two parts did, from what its parts did.
use Rattle.std.proofs.Common.{◌≡◌, List, [], ◌++◌, Some, None, refl}
use Rattle.calloop_sources.specs.declared.both.Both.{Both}
use Rattle.calloop_poll.specs.sys.Pollers.{Outside}
use Rattle.calloop_poll.specs.sys.Polls.{PollView, PollStep, AllStepped}
use Rattle.calloop_sources.specs.sources.Deeds.{Deed}
use Rattle.calloop_sources.specs.sources.Meanings.{Meaning, Does}
use Rattle.calloop_sources.specs.Boths.{AsksBoth}
use Rattle.calloop_poll.proofs.Stepping.{stepped-append}

module _ {A B P T : Type 0} (O : Outside P) (m : Meaning A P T) (n : Meaning B P T) where
  pub both_asked : (first other : Deed T) (s t : Both A B) (v u w : PollView P) → Does O m s.first v first t.first u
      → Does O n s.second u other t.second w
      → (steps : List (PollStep P)) × AsksBoth m n first (Some other) s v steps t × AllStepped O v steps w
  both_asked first other s t v u w x y = (
    x.0 ++ y.0,
    record { one = x.0; more = y.0; does = x.1; may = rw (← x.2.1) y.1; steps_are = refl },
    stepped-append O v u w x.0 y.0 x.2 y.2,
  )

  pub first_asked : (first : Deed T) (s t : Both A B) (v w : PollView P) → t.second ≡ s.second
      → Does O m s.first v first t.first w
      → (steps : List (PollStep P)) × AsksBoth m n first None s v steps t × AllStepped O v steps w
  first_asked first s t v w same x = (
    x.0 ++ [],
    record { one = x.0; more = []; does = x.1; may = (refl, same); steps_are = refl },
    stepped-append O v w w x.0 [] x.2 (tt, refl),
  )
