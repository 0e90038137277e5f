use Rattle.std.proofs.Common.{◌≡◌, ℕ, List, [], ◌∷◌, None, true, false, length, inl, inr, refl, sym, ◌∙◌, ap, subst, arith}
use Rattle.std.specs.List.{Contains}
use Rattle.logbook.specs.Pages.{Book}
use Rattle.calloop_slots.specs.Tokens.{registration_of}
use Rattle.calloop_slots.specs.Slots.{content_at}
use Rattle.calloop_wake.specs.declared.notes.Note.{Note}
use Rattle.calloop_wake.specs.declared.notes.Note.TheVariants.{Counted, Looked, Unposted, Marked}
use Rattle.calloop_poll.specs.sys.Polls.{posted_event}
use Rattle.calloop_laws.specs.BusyRun.{anything}
use Rattle.calloop_loop.specs.Machine.{Watching, Cut, Ended, Gathered}
use Rattle.calloop_loop.specs.Rules.{CutTo, after_changes}
use Rattle.calloop_laws.specs.WrongRuns.{SmallChange}
use Rattle.calloop_laws.specs.Examples.{with_a_source, with_its_event, drops_what_it_took, takes_nothing}
use Rattle.calloop_laws.specs.Handed.{IsHandedOut, looked}
use Rattle.calloop_laws.specs.Histories.{Unseen}
use Rattle.calloop_wake_laws.specs.Wakes.{Post}
use Rattle.calloop_laws.proofs.Refuting.{only_step, first_or_second, zero_one, two_five, first_part, not_empty, no_nil, none_less, taking_of_a_ring, taking_of_nothing, taking_before_a_clearing, one_five}
use Rattle.calloop_laws.proofs.Histories.{keys_from, last_keys}
use Rattle.calloop_laws.proofs.unserved_keys_are_ruled_out.Goals as goal

pub returns-clause-to_none : goal.returns-clause-to_none
returns-clause-to_none c = λ name f.
    let s = only_step (Cut None ∷ Ended ∷ []) f.changes f.ahead f.behind f.is in
    let here = subst (λ (l : List (List SmallChange)). CutTo anything (posted_event 0) (content_at (after_changes (with_its_event name) l).slots (registration_of (posted_event 0).token)) (after_changes (with_its_event name) l) f.x f.changes f.next) s.0 f.cut in
    let cut = subst (λ (cs : List SmallChange). CutTo anything (posted_event 0) (content_at (with_its_event name).slots (registration_of (posted_event 0).token)) (with_its_event name) f.x cs f.next) s.1 here in
    two_five (ap (λ (cs : List SmallChange). length cs) cut.6)

pub returns-clause-one_left : goal.returns-clause-one_left
returns-clause-one_left c = λ name f.
    elim (first_or_second (Gathered (0 ∷ 1 ∷ []) [] 5 ∷ []) (Cut None ∷ Ended ∷ []) f.changes f.ahead f.behind f.is) [
      | inl none ↦ not_empty (posted_event 1) f.others (sym (ap (λ (l : List (List SmallChange)). (after_changes (with_a_source name) l).poll.batch) none) ∙ f.first)
      | inr one ↦ zero_one (ap first_part (sym (ap (λ (l : List (List SmallChange)). (after_changes (with_a_source name) l).poll.batch) one) ∙ f.first))
    ]

-- it hands out nothing
no_key : (name : Book) → IsHandedOut anything (with_a_source name) (drops_what_it_took name) (posted_event 0) → ⊥
no_key name f =
    let s = only_step (Watching (record { name = name; notes = Counted 1 ∷ Marked [] ∷ Looked true ∷ Unposted 1 (0 ∷ []) ∷ [] }) ∷ []) f.changes f.ahead f.behind f.is in
    not_empty (posted_event 0) f.others (sym (ap (λ (l : List (List SmallChange)). (after_changes (with_a_source name) l).poll.batch) s.0) ∙ f.first)

pub returns-clause-dropped : goal.returns-clause-dropped
returns-clause-dropped c = λ name n.
    let keys : 0 ∷ [] ≡ n.keys = ap (λ (l : List Note). keys_from [] l) n.notes ∙ last_keys [] (looked n.looks) n.places n.keys in
    no_key name (n.handed_out 0 (subst (λ (l : List ℕ). Contains l 0) keys (0, omega arith, refl)))

pub returns-clause-unserved : goal.returns-clause-unserved
returns-clause-unserved c = λ name s. no_key name ((s.served (taking_of_a_ring name)).handed_out 0 (0, omega arith, refl))

pub returns-clause-lost : goal.returns-clause-lost
returns-clause-lost c = λ name s.
    elim ((s.served (taking_of_nothing name)).left tt 0 7 (refl, refl)) [
      | inl made ↦ no_nil (Unseen (Post 7)) made.0 made.1 made.2
      | inr (inl owed) ↦ none_less owed
      | inr (inr held) ↦ none_less held
    ]

no_seven : (name : Book) → IsHandedOut anything (with_a_source name) (takes_nothing name) (posted_event 7) → ⊥
no_seven name f =
    let s = only_step (Watching (record { name = name; notes = Counted 0 ∷ Marked [] ∷ Looked false ∷ Unposted 0 [] ∷ [] }) ∷ []) f.changes f.ahead f.behind f.is in
    not_empty (posted_event 7) f.others (sym (ap (λ (l : List (List SmallChange)). (after_changes (with_a_source name) l).poll.batch) s.0) ∙ f.first)

pub returns-clause-forgotten : goal.returns-clause-forgotten
returns-clause-forgotten c = λ name s.
    elim ((s.served (taking_before_a_clearing name)).rung tt 0 7 (refl, refl)) [
      | inl f ↦ no_seven name f
      | inr (inl owed) ↦ none_less owed
      | inr (inr held) ↦ none_less held
    ]

pub returns-clause-left_over : goal.returns-clause-left_over
returns-clause-left_over c = λ name n.
    let f = n.left_over (posted_event 0) (0, omega arith, refl) in
    let s = only_step (Watching (record { name = name; notes = Counted 0 ∷ Marked [] ∷ Looked false ∷ Unposted 0 [] ∷ [] }) ∷ []) f.changes f.ahead f.behind f.is in
    let here = subst (λ (l : List (List SmallChange)). CutTo anything (posted_event 0) (content_at (after_changes (with_its_event name) l).slots (registration_of (posted_event 0).token)) (after_changes (with_its_event name) l) f.x f.changes f.next) s.0 f.cut in
    let cut = subst (λ (cs : List SmallChange). CutTo anything (posted_event 0) (content_at (with_its_event name).slots (registration_of (posted_event 0).token)) (with_its_event name) f.x cs f.next) s.1 here in
    one_five (ap (λ (cs : List SmallChange). length cs) cut.6)
