use Rattle.std.proofs.Common.{◌≡◌, ap, sym, ◌∙◌, List, length, rules, refl, [], ◌∷◌, None, Ok, inl, inr, true, false, arith}
use Rattle.std.proofs.lemmas.List.Sorted.{IsPermutation-refl}
use Rattle.calloop_slots.specs.declared.list.Content.TheVariants.{Source, InTurn}
use Rattle.calloop_slots.specs.Tokens.{after_token, registration_of}
use Rattle.calloop_wake.specs.Watches.{with_note}
use Rattle.calloop_wake.specs.declared.notes.Note.TheVariants.{Counted, Looked, Marked}
use Rattle.calloop_sources.specs.declared.sources.source.PostAction.TheVariants.{Remove}
use Rattle.calloop_sources.specs.declared.timer.TimeoutAction.TheVariants.{Drop}
use Rattle.calloop_poll.specs.sys.Polls.{Arm, Cancel, Call}
use Rattle.calloop_loop.specs.Askings.{asks_nothing, no_asks, of_turn}
use Rattle.calloop_loop.specs.Rules.{factory_of, Settling, Sleeping, Waiting, Gathering, Noticing, Cutting, Serving, Ending, Returning, Idling, RunningIdles, Leaving}
use Rattle.calloop_laws.specs.Wrong.{first_token, first_registration}
use Rattle.calloop_laws.specs.ExampleRun.{five, first_arm, as_armed, as_changed, as_called, as_removed, only, its_run}
use Rattle.std.proofs.Common.{ℕ, nat_eq, if◌then◌else◌}
use Rattle.logbook.specs.Pages.{Book}
use Rattle.calloop_sources.specs.sources.Holdings.{Free, Standing, IsWithin}
use Rattle.calloop_loop.specs.Machine.{IsNew}
use Rattle.calloop_laws.specs.ExampleRun.{new_world, no_idle, quiet_poller, Only, Its, of_the_dispatch}
use Rattle.calloop_loop.specs.Askings.{all_but_first}
use Rattle.calloop_laws.specs.Laws.{flatten}
use Rattle.calloop_loop.specs.Machine.{View}
use Rattle.calloop_loop.specs.Rules.{DispatchedBy}
use Rattle.calloop_laws.specs.Served.{events_cut}
use Rattle.calloop_laws.specs.Unserved.{before_its_dispatch}
use Rattle.calloop_poll.specs.declared.sys.poll.Pending.{Pending}
use Rattle.calloop_laws.proofs.run_that_there_is.Goals as goal

is_new : (name : Book) → IsNew (new_world name)
is_new name =
    record { slots = refl; table = refl; deadlines = refl; batch = refl; passes = refl; pass = refl; places = refl; unwatched = refl; held = refl; handed = refl; ledger = refl }

-- the timer holds at most what it held before its exchange
same_hold : (counter : ℕ) → IsWithin (only.holds as_changed counter) (only.holds as_armed counter)
same_hold counter = elim (nat_eq counter 0) as (λ b. IsWithin (if b then Standing five else Free) (if b then Standing five else Free)) [ true ↦ refl | false ↦ tt ]

pub returns-clause-fresh : goal.returns-clause-fresh
returns-clause-fresh c = (((λ counter. refl, tt), ((same_hold, tt), (tt, tt))), (tt, ((λ key has. has), (tt, tt))))

pub returns-clause-brought : goal.returns-clause-brought
returns-clause-brought c = λ name. ((λ counter. refl, tt), (tt, (tt, (tt, ((same_hold, tt), search rules)))))

pub returns-clause-run : goal.returns-clause-run
returns-clause-run c = λ name. (
  (
    (omega arith, refl, as_armed, after_token (factory_of first_registration), Arm five first_token ∷ [], ((Arm five first_token ∷ [], refl, (refl, refl, refl)), refl), refl),
    (tt, (search rules, (tt, ((record { version = 0; content = InTurn }, refl, refl), tt)))),
  ),
  (
    ((refl, refl), ((record { version = 0; content = Source as_armed }, refl, refl), tt)),
    (
      inr (
        Settling None [] tt,
        (0, [], [], record { same = IsPermutation-refl []; order = λ place t u first second. cc }, refl, refl),
        (tt, (tt, (tt, tt))),
        (
          Sleeping None [] tt,
          (refl, refl),
          tt,
          (
            Waiting None tt,
            (refl, refl),
            tt,
            (
              Gathering 5 [] tt,
              (Ok 5, [], tt, with_note (Looked false) (record { name = name; notes = Counted 0 ∷ Marked [] ∷ [] }), (0, tt, tt, false, [], (tt, (refl, refl), tt), refl, refl), refl, refl),
              (tt, (tt, tt)),
              (
                Noticing 0 [] tt,
                ([], refl, refl),
                ((tt, omega arith), tt),
                (
                  Cutting tt,
                  (refl, refl),
                  tt,
                  (
                    Serving first_registration as_called (Ok Remove) tt,
                    (
                      as_called,
                      Ok Remove,
                      Call 0 five ∷ [],
                      tt,
                      [],
                      record {
                        inner = record { calls = record { event = five; before = tt; after = tt; answer = Drop } ∷ []; answer = Ok Remove };
                        turned = inl (first_arm, record { registered = refl; named = refl; unspent = refl; unarmed = refl; action = Drop; called = refl; more = []; steps_are = refl; answered = (refl, refl, refl) });
                        went = (tt, tt, of_turn (registration_of first_token) no_asks, (refl, refl), asks_nothing (of_turn (registration_of first_token) no_asks), (refl, refl, refl));
                        told = refl;
                      },
                      refl,
                      refl,
                    ),
                    (tt, ((record { version = 0; content = Source as_changed }, refl, refl), (search rules, (tt, (tt, tt))))),
                    (
                      Ending first_registration as_called (Ok Remove) tt,
                      (refl, refl),
                      tt,
                      (
                        Returning first_registration as_called (Ok tt) tt,
                        (as_called, Ok tt, (refl, refl, refl), refl),
                        (tt, ((record { version = 0; content = InTurn }, refl, refl), tt)),
                        (
                          Cutting tt,
                          ((as_removed, Ok tt, true, Cancel 0 ∷ [], ((refl, refl, refl), refl), refl), refl),
                          (search rules, (tt, (tt, (tt, tt)))),
                          (
                            Idling tt,
                            (refl, refl),
                            tt,
                            (
                              RunningIdles tt,
                              (refl, refl),
                              (tt, tt),
                              (
                                Leaving (Ok tt) tt,
                                (refl, refl),
                                tt,
                                refl,
                              ),
                            ),
                          ),
                        ),
                      ),
                    ),
                  ),
                ),
              ),
            ),
          ),
        ),
      ),
      refl,
    ),
  ),
)

pub returns-clause-armings : goal.returns-clause-armings
returns-clause-armings c = λ name law. law (its_run name) (returns-clause-run c name) refl (is_new name) (returns-clause-fresh c).0

pub returns-clause-armings_of_fresh : goal.returns-clause-armings_of_fresh
returns-clause-armings_of_fresh c = λ name law. law (its_run name) (returns-clause-run c name) refl (is_new name) (returns-clause-brought c name)

pub returns-clause-home : goal.returns-clause-home
returns-clause-home c = λ name law. law (its_run name) (returns-clause-run c name) refl (is_new name) (returns-clause-fresh c).1

pub returns-clause-moments : goal.returns-clause-moments
returns-clause-moments c = λ name law. law (its_run name) (returns-clause-run c name) refl

one_zero : ◌≡◌ {A = ℕ} 1 0 → ⊥
one_zero e = omega arith

is_dispatch : (name : Book) → DispatchedBy only no_idle quiet_poller None tt (Ok tt) tt (before_its_dispatch name) (of_the_dispatch name)
is_dispatch name = (returns-clause-run _ name).1.1.0

pub returns-clause-served : goal.returns-clause-served
returns-clause-served c = λ name law.
    let k = law None tt tt (before_its_dispatch name) (of_the_dispatch name) (is_dispatch name) in
    ap (λ (v : View Only (Unit {0}) (Unit {0})). v.poll.batch) (sym k.1.1) ∙ k.2

-- the changes of its dispatch after its gathering
abbrev behind_it : Book → List Its
behind_it name = flatten (all_but_first (all_but_first (all_but_first (all_but_first (all_but_first (of_the_dispatch name))))))

pub returns-clause-cuts : goal.returns-clause-cuts
returns-clause-cuts c = λ name law.
    let k = law None tt tt (before_its_dispatch name) (of_the_dispatch name) (is_dispatch name) in
    let at = ap (λ (v : View Only (Unit {0}) (Unit {0})). events_cut v (behind_it name)) k.1.2.2 in
    one_zero (ap (λ (es : List Pending). length es) (sym (k.1.2.3 ∙ at) ∙ k.2))
