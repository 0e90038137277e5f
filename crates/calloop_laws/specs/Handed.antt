-- What a dispatch that returns `Ok` does with the posted keys that it took. calloop says none of it.
use Rattle.std.specs.Prelude.{◌≡◌, ℕ, Bool, List, [], ◌∷◌, ◌++◌, map, Option, Ok}
use Rattle.std.specs.List.{Contains}
use Rattle.calloop_slots.specs.Tokens.{registration_of}
use Rattle.calloop_slots.specs.Slots.{content_at}
use Rattle.calloop_slots.specs.declared.token.RegistrationToken.{RegistrationToken}
use Rattle.calloop_wake.specs.declared.notes.Note.{Note}
use Rattle.calloop_wake.specs.declared.notes.Note.TheVariants.{Counted, Looked, Unposted, Marked}
use Rattle.calloop_poll.specs.declared.sys.poll.Pending.{Pending}
use Rattle.calloop_sources.specs.sources.Deeds.{Lent}
use Rattle.calloop_sources.specs.sources.Meanings.{Meaning}
use Rattle.calloop_poll.specs.sys.Pollers.{Outside}
use Rattle.calloop_poll.specs.sys.Polls.{posted_event}
use Rattle.calloop_loop.specs.Askings.{Asks, Runs}
use Rattle.calloop_loop.specs.Machine.{View, Change}
use Rattle.calloop_loop.specs.Rules.{Doing, CutTo, DispatchedBy, after_changes}

-- One of these steps hands out this event, which is then the first of the batch. The source that the event's token names at
-- that moment has its turn with the event; if the token names no source, the event is handed out to none.
pub record IsHandedOut {D I P X : Type 0} (M : Meaning D P (Lent X (Asks D I))) (v : View D I P)
    (css : List (List (Change D I P))) (e : Pending) : Type 0 where
  pub ahead : List (List (Change D I P))
  pub changes : List (Change D I P)
  pub behind : List (List (Change D I P))
  pub is : css ≡ ahead ++ changes ∷ behind
  pub others : List Pending
  pub first : (after_changes v ahead).poll.batch ≡ e ∷ others
  pub x : X
  pub next : Doing D X
  pub cut : CutTo M e (content_at (after_changes v ahead).slots (registration_of e.token)) (after_changes v ahead) x changes next

-- the notes of looks that found this
abbrev pub looked : List Bool → List Note
looked found = map (λ b. Looked b) found

-- What the watch notes of a dispatch: the dispatch counts the places once, takes the marks of adapters, looks, and takes
-- posted keys once, with room for one per place. It hands out the event of each key that it took, and each left over before.
pub record IsNotedDispatch {D I P X : Type 0} (M : Meaning D P (Lent X (Asks D I))) (v : View D I P)
    (css : List (List (Change D I P))) : Type 0 where
  pub places : ℕ
  pub marks : List RegistrationToken
  pub looks : List Bool
  pub keys : List ℕ
  pub notes : (after_changes v css).poll.watch.notes
      ≡ v.poll.watch.notes ++ Counted places ∷ Marked marks ∷ (looked looks ++ Unposted places keys ∷ [])
  pub handed_out : (k : ℕ) → Contains keys k → IsHandedOut M v css (posted_event k)
  pub left_over : (e : Pending) → Contains v.poll.batch e → IsHandedOut M v css e

-- this law holds of each dispatch that returns `Ok`, whatever poller, sources, callbacks and idles return
abbrev pub OverEachDispatch : {D I P X : Type 0} → Meaning D P (Lent X (Asks D I)) → Runs D I X → Outside P
    → (View D I P → List (List (Change D I P)) → Type 0) → Type 0
OverEachDispatch {D} {I} {P} {X} M runs O Law =
    (timeout : Option ℕ) (x x' : X) (v : View D I P) (css : List (List (Change D I P)))
    → DispatchedBy M runs O timeout x (Ok tt) x' v css → Law v css
