-- The receiving end of a cell holds no counter of a timer, makes no step of a timer, and stays at home, as its turns do. The
-- impls cite these proofs, so they stand here.
use Rattle.std.proofs.Common.{refl}
use Rattle.std.specs.Prelude.{◌≡◌, ℕ, List, Bool, true, false, Option, Some, None, Result, Ok, Err}
use Rattle.std.proofs.Common.{inl, inr, ap, sym, ◌∙◌}
use Rattle.calloop_slots.specs.declared.error.Error.{Error}
use Rattle.calloop_slots.specs.declared.token.Token.{Token}
use Rattle.calloop_slots.specs.declared.token.TokenFactory.{TokenFactory}
use Rattle.calloop_slots.specs.declared.token.RegistrationToken.{RegistrationToken}
use Rattle.calloop_wake.specs.declared.Tally.{Tally}
use Rattle.calloop_slots.specs.Tokens.{key_of, next_token}
use Rattle.calloop_wake.specs.Cells.{is_own}
use Rattle.calloop_wake.specs.Passes.{Taken}
use Rattle.calloop_sources.specs.declared.sources.source.PostAction.{PostAction}
use Rattle.calloop_sources.specs.sources.Calls.{CallbackCall}
use Rattle.calloop_sources.specs.sources.Deeds.{Heard, Registered, Reregistered, Unregistered, Turned, Slept, Noticed}
use Rattle.calloop_poll.specs.sys.Keys.{IsKeyOf, IsFactoryOf, AllActFor}
use Rattle.calloop_sources.specs.sources.Lawful.{next_is_own, StaysHome, stays_home, silent}
use Rattle.calloop_sources.specs.sources.Meanings.{Meaning, IsKeeping, KeepsCounters}
use Rattle.calloop_poll.specs.sys.Polls.{PollStep}
use Rattle.calloop_sources.specs.sources.Holdings.{Keeps, holds_none}
use Rattle.calloop_ends.specs.cell.CellSources.{Registers, RegistersAnew, Unregisters, OpenTurns, TurnWith, TurnFor, CellTurn, cell_keys, cell_meaning}

-- a turn leaves the tally's key as it is, holds no counter, and acts for whatever registration is asked
pub record IsQuietTurn {P : Type 0} (before after : Tally) (steps : List (PollStep P)) : Type 0 where
  pub key : after.key ≡ before.key
  pub counters : (next : ℕ) → Keeps holds_none next steps holds_none
  pub own : (r : RegistrationToken) → AllActFor r steps

-- a turn that the cell opens leaves the key as it is
abbrev pub OpensQuietly : {S E M T : Type 0} → (tally : S → Tally) → OpenTurns S E M T → Type 0
OpensQuietly {S} {E} {M} {T} tally Opens =
    (s t : S) (calls : List (CallbackCall E M T)) (action : PostAction) → Opens s calls action t
    → (tally t).key ≡ (tally s).key

module _ {S P E M T : Type 0} (tally : S → Tally) (Opens : OpenTurns S E M T) (quiet : OpensQuietly tally Opens) where
  with_quiet : (pass : Option Taken) (s t : S) (calls : List (CallbackCall E M T)) (action : PostAction) (l : List (PollStep P))
      → TurnWith tally Opens pass s calls action l t → IsQuietTurn (tally s) (tally t) l
  with_quiet None s t calls action l h =
      record { key = ap (λ (x : S). (tally x).key) h.3; counters = λ next. rw h.2 (λ counter. tt); own = λ r. rw h.2 (tt, tt) }
  with_quiet (Some p) s t calls action l (inl h) =
      record { key = quiet s t calls action h.0; counters = λ next. rw h.1 (λ counter. tt); own = λ r. rw h.1 (tt, tt) }
  with_quiet (Some p) s t calls action l (inr h) =
      record {
        key = ap (λ (x : S). (tally x).key) h.3;
        counters = λ next. rw h.2 (λ counter. tt);
        own = λ r. rw h.2 (tt, (tt, tt));
      }

  for_quiet : (is_own : Bool) (pass : Option Taken) (s t : S) (calls : List (CallbackCall E M T)) (action : PostAction)
      (l : List (PollStep P)) → TurnFor tally Opens is_own pass s calls action l t → IsQuietTurn (tally s) (tally t) l
  for_quiet true pass s t calls action l h = with_quiet pass s t calls action l h
  for_quiet false pass s t calls action l h =
      record { key = ap (λ (x : S). (tally x).key) h.3; counters = λ next. rw h.2 (λ counter. tt); own = λ r. rw h.2 tt }

  pub turn_quiet : {Cause : Type 0} (s t : S) (token : Token) (pass : Option Taken) (calls : List (CallbackCall E M T))
      (answer : Result PostAction Cause) (l : List (PollStep P)) → CellTurn tally Opens s token pass calls answer l t
      → IsQuietTurn (tally s) (tally t) l
  turn_quiet s t token pass calls (Ok action) l h =
      for_quiet (is_own (key_of token) (tally s).key) pass s t calls action l h
  turn_quiet s t token pass calls (Err e) l h = absurd h

module _ {P : Type 0} where
  reg_keeps : (s t : Tally) (next : ℕ) (f g : TokenFactory) (a : Result (Unit {0}) Error) (l : List (PollStep P))
      → Registers s f a l t g → Keeps holds_none next l holds_none
  reg_keeps s t next f g (Ok u) l h = rw h.1 (λ counter. tt)
  reg_keeps s t next f g (Err e) l h = rw h.0 (λ counter. tt)

  rereg_keeps : (s t : Tally) (next : ℕ) (f g : TokenFactory) (a : Result (Unit {0}) Error) (l : List (PollStep P))
      → RegistersAnew s f a l t g → Keeps holds_none next l holds_none
  rereg_keeps s t next f g (Ok u) l h = rw h.1 (λ counter. tt)
  rereg_keeps s t next f g (Err e) l h = rw h.0 (λ counter. tt)

  unreg_keeps : (s t : Tally) (next : ℕ) (a : Result (Unit {0}) Error) (l : List (PollStep P)) → Unregisters s a l t
      → Keeps holds_none next l holds_none
  unreg_keeps s t next (Ok u) l h = rw h.1 (λ counter. tt)
  unreg_keeps s t next (Err e) l h = rw h.2 (λ counter. tt)

module _ {S : Type 0} (tally : S → Tally) where
  abbrev Home : RegistrationToken → S → Type 0
  Home r s = (key : ℕ) → cell_keys tally s key → IsKeyOf r key

  home_next : (r : RegistrationToken) (f : TokenFactory) (t : S) → IsFactoryOf r f
      → (tally t).key ≡ Some (key_of (next_token f)) → Home r t
  home_next r f t is held key e =
      next_is_own f r key is (let same : Some (key_of (next_token f)) ≡ Some key = sym held ∙ e in cc)

  home_same : (r : RegistrationToken) (s t : S) → Home r s → (tally t).key ≡ (tally s).key → Home r t
  home_same r s t home same key e = home key (sym same ∙ e)

  home_none : (r : RegistrationToken) (t : S) → (tally t).key ≡ None → Home r t
  home_none r t none key e = let same : None ≡ Some key = sym none ∙ e in cc

module _ {S P E M T Cause : Type 0} (tally : S → Tally) (Same : S → S → Type 0) (Opens : OpenTurns S E M T)
    (quiet : OpensQuietly tally Opens) where
  abbrev Meant : Meaning S P (Heard E M T Cause)
  Meant = cell_meaning tally Same Opens

  cell_counts : KeepsCounters Meant
  cell_counts s t v (Registered f a g) l fits below h = (tt, reg_keeps (tally s) (tally t) v.deadlines.next f g a l h.0)
  cell_counts s t v (Reregistered f a g) l fits below h = (tt, rereg_keeps (tally s) (tally t) v.deadlines.next f g a l h.0)
  cell_counts s t v (Unregistered a) l fits below h = (tt, unreg_keeps (tally s) (tally t) v.deadlines.next a l h.0)
  cell_counts s t v (Slept gs a) l fits below h = (tt, rw h.1 (λ counter. tt))
  cell_counts s t v (Noticed es) l fits below h = (tt, rw h.0 (λ counter. tt))
  cell_counts s t v (Turned r k turn) l fits below h =
      (tt, (turn_quiet tally Opens quiet s t k v.pass turn.calls turn.answer l h).counters v.deadlines.next)

  cell_stays : StaysHome Meant
  cell_stays r s t v (Registered f (Ok u) g) l begins h =
      (home_next tally r f t begins (ap (λ x. x.key) h.0.2), rw h.0.1 tt)
  cell_stays r s t v (Registered f (Err e) g) l begins h =
      (home_same tally r s t begins.0 (ap (λ x. x.key) h.0.1), rw h.0.0 tt)
  cell_stays r s t v (Reregistered f (Ok u) g) l begins h =
      (home_next tally r f t begins.1 (ap (λ x. x.key) h.0.2), rw h.0.1 tt)
  cell_stays r s t v (Reregistered f (Err e) g) l begins h =
      (home_same tally r s t begins.0 (ap (λ x. x.key) h.0.1), rw h.0.0 tt)
  cell_stays r s t v (Unregistered (Ok u)) l home h = (home_none tally r t (ap (λ x. x.key) h.0.2), rw h.0.1 tt)
  cell_stays r s t v (Unregistered (Err e)) l home h =
      (home_same tally r s t home (ap (λ x. x.key) h.0.3), rw h.0.2 tt)
  cell_stays r s t v (Slept gs a) l home h = (home_same tally r s t home (ap (λ (x : S). (tally x).key) h.2), rw h.1 tt)
  cell_stays r s t v (Noticed es) l home h = (home_same tally r s t home (ap (λ (x : S). (tally x).key) h.1), rw h.0 tt)
  cell_stays r s t v (Turned readiness k turn) l home h =
      let x = turn_quiet tally Opens quiet s t k v.pass turn.calls turn.answer l h in (home_same tally r s t home x.key, x.own r)

  pub cell_keeps : IsKeeping (cell_meaning {P = P} {Cause = Cause} tally Same Opens)
  cell_keeps =
      record {
        counters = cell_counts;
        home = stays_home Meant cell_stays;
        limit = silent Meant (λ s. refl) (λ s t v given answer steps h. h.0.0);
      }
