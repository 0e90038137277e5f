use Rattle.std.proofs.Common.{◌≡◌, ◌+◌, ℕ, zero, suc, List, length, rules, refl, ap, sym, ◌∙◌, subst, [], ◌∷◌, Some, None, Ok, Err, inl, inr, true, false, arith, slice_get}
use Rattle.std.proofs.lemmas.List.Sorted.{IsPermutation-refl}
use Rattle.calloop_slots.specs.declared.error.Error.TheVariants.{OutOfMemory}
use Rattle.calloop_slots.specs.declared.list.Content.TheVariants.{Source, InTurn}
use Rattle.calloop_slots.specs.declared.token.RegistrationToken.{RegistrationToken}
use Rattle.calloop_slots.specs.Tokens.{after_token, registration_of}
use Rattle.calloop_wake.specs.Watches.{with_note}
use Rattle.calloop_wake.specs.declared.notes.Note.TheVariants.{Counted, Looked, Marked}
use Rattle.calloop_sources.specs.declared.sources.source.PostAction.TheVariants.{Continue, Reregister}
use Rattle.calloop_poll.specs.sys.Polls.{Socket, after_count, marks_taken}
use Rattle.calloop_poll.specs.sys.SlotOrder.{IsInSlotOrder}
use Rattle.calloop_poll.specs.sys.Tables.{Enter}
use Rattle.calloop_loop.specs.declared.asks.Answer.TheVariants.{Done}
use Rattle.calloop_loop.specs.declared.asks.Request.TheVariants.{Update}
use Rattle.calloop_loop.specs.Askings.{Write}
use Rattle.calloop_loop.specs.Held.{Pend, Told}
use Rattle.calloop_loop.specs.Machine.{Holds}
use Rattle.calloop_loop.specs.Rules.{factory_of, Settling, Sleeping, Waiting, Gathering, Noticing, Cutting, Serving, Ending, Returning, Idling, RunningIdles, Leaving}
use Rattle.calloop_laws.specs.Wrong.{first_token, first_registration, second_registration}
use Rattle.calloop_laws.specs.BusyRun.{for_reading, two_found, behind_the_failure, anything, giving_poller, dispatch_of_the_rest}
use Rattle.calloop_loop.specs.Askings.{all_but_first}
use Rattle.calloop_laws.specs.Laws.{flatten}
use Rattle.calloop_loop.specs.Machine.{visible}
use Rattle.calloop_loop.specs.Rules.{DispatchedBy}
use Rattle.calloop_laws.specs.Served.{events_cut}
use Rattle.calloop_laws.specs.Unserved.{SmallView}
use Rattle.calloop_laws.specs.WrongRuns.{SmallChange, idle_never}
use Rattle.calloop_poll.specs.declared.sys.poll.Pending.{Pending}
use Rattle.logbook.specs.Pages.{Book}
use Rattle.calloop_sources.specs.declared.sources.source.PostAction.TheVariants.{Remove}
use Rattle.calloop_sources.specs.declared.timer.TimeoutAction.TheVariants.{Drop, ToInstant}
use Rattle.calloop_poll.specs.sys.Polls.{Arm, ArmAgain, Call, Cancel}
use Rattle.calloop_sources.specs.Timers.{armed_for}
use Rattle.calloop_loop.specs.Askings.{asks_nothing, no_asks, of_turn}
use Rattle.calloop_loop.specs.Machine.{IsNew}
use Rattle.calloop_laws.specs.ExampleRun.{five, first_arm, as_armed, new_world}
use Rattle.calloop_laws.specs.RearmedRun.{ten, as_rearmed, as_called_again, as_gone, rearmed_run, behind_the_first_call}
use Rattle.calloop_laws.proofs.busy_runs_that_there_are.Goals as goal

pub returns-clause-run : goal.returns-clause-run
returns-clause-run c = λ name. (
  (
    (omega arith, refl, tt, after_token (factory_of first_registration), Socket (Enter first_token for_reading) tt ∷ [], tt, refl),
    (tt, (((refl, (refl, refl)), tt), (tt, ((record { version = 0; content = InTurn }, refl, refl), tt)))),
  ),
  (
    (
        inr (
          Settling None [] tt,
          (0, [], [], record { same = IsPermutation-refl []; order = λ place t u first second. cc }, refl, refl),
          (tt, (tt, (tt, tt))),
          (
            Sleeping None [] tt,
            (refl, refl),
            tt,
            (
              Waiting None tt,
              (refl, refl),
              tt,
              (
                Gathering 5 two_found tt,
                (Ok 5, two_found, tt, with_note (Looked false) (record { name = name; notes = Counted 0 ∷ Marked [] ∷ [] }), (0, tt, tt, false, [], (tt, refl, tt), refl, refl), refl, refl),
                (tt, (tt, tt)),
                (
                  Noticing 0 [] tt,
                  ([], refl, refl),
                  ((tt, omega arith), tt),
                  (
                    Cutting tt,
                    (refl, refl),
                    tt,
                    (
                      Serving first_registration tt (Err OutOfMemory) tt,
                      (tt, Err OutOfMemory, [], tt, Write (Update first_registration) ∷ [], tt, refl, refl),
                      (tt, ((record { version = 0; content = Source tt }, refl, refl), (tt, (tt, (tt, tt))))),
                      (
                        Serving first_registration tt (Err OutOfMemory) tt,
                        (Holds (Pend Reregister) ∷ Holds (Told Done) ∷ [], (Ok tt, Holds (Pend Reregister) ∷ [], (refl, refl), refl), refl, refl),
                        (tt, (tt, (tt, tt))),
                        (
                          Ending first_registration tt (Err OutOfMemory) tt,
                          (refl, refl),
                          tt,
                          (
                            Returning first_registration tt (Err OutOfMemory) tt,
                            (tt, Err OutOfMemory, (refl, refl, refl), refl),
                            (tt, tt),
                            (
                              Leaving (Err OutOfMemory) tt,
                              (refl, refl),
                              ((record { version = 0; content = InTurn }, refl, refl), tt),
                              refl,
                            ),
                          ),
                        ),
                      ),
                    ),
                  ),
                ),
              ),
            ),
          ),
        )
        ),
    (
      inr (
        Settling None [] tt,
        (0, [], [], record { same = IsPermutation-refl []; order = λ place t u first second. cc }, refl, refl),
        (tt, (tt, (tt, tt))),
        (
          Sleeping None [] tt,
          (refl, refl),
          tt,
          (
            Waiting None tt,
            (refl, refl),
            tt,
            (
              Gathering 6 [] tt,
              (Ok 6, [], tt, with_note (Looked false) (marks_taken [] (after_count 0 (behind_the_failure name).poll)).watch, (0, tt, tt, false, [], (tt, refl, tt), refl, refl), refl, refl),
              (tt, (tt, tt)),
              (
                Noticing 1 [] tt,
                ([], refl, refl),
                ((tt, omega arith), tt),
                (
                  Cutting tt,
                  (refl, refl),
                  tt,
                  (
                    Serving first_registration tt (Ok Continue) tt,
                    (tt, Ok Continue, [], tt, [], tt, refl, refl),
                    (tt, ((record { version = 0; content = Source tt }, refl, refl), (tt, (tt, (tt, tt))))),
                    (
                      Ending first_registration tt (Ok Continue) tt,
                      (refl, refl),
                      tt,
                      (
                        Returning first_registration tt (Ok tt) tt,
                        (tt, Ok tt, (refl, refl, refl), refl),
                        (tt, tt),
                        (
                          Cutting tt,
                          (refl, refl),
                          ((record { version = 0; content = InTurn }, refl, refl), tt),
                          (
                            Idling tt,
                            (refl, refl),
                            tt,
                            (
                              RunningIdles tt,
                              (refl, refl),
                              (tt, tt),
                              (
                                Leaving (Ok tt) tt,
                                (refl, refl),
                                tt,
                                refl,
                              ),
                            ),
                          ),
                        ),
                      ),
                    ),
                  ),
                ),
              ),
            ),
          ),
        ),
      ),
      refl,
    ),
  ),
)

-- two adapters in the order of their slots
nothing_behind : (n : ℕ) (u : RegistrationToken) → slice_get (first_registration ∷ second_registration ∷ []) (suc (suc n)) ≡ Some u → ⊥
nothing_behind zero u h = cc
nothing_behind (suc n) u h = cc

in_order : IsInSlotOrder (first_registration ∷ second_registration ∷ [])
in_order zero t u first second = (let e : first_registration ≡ t = cc in let s : t.slot ≡ 0 = sym (ap (λ (x : RegistrationToken). x.slot) e) in omega arith)
in_order (suc n) t u first second =
    let same : suc n + 1 ≡ suc (suc n) = omega arith in
    absurd (nothing_behind n u (subst (λ m. slice_get (first_registration ∷ second_registration ∷ []) m ≡ Some u) same second))

pub returns-clause-settled : goal.returns-clause-settled
returns-clause-settled c = λ name. (
  (
      inr (
        Settling None (first_registration ∷ second_registration ∷ []) tt,
        (0, first_registration ∷ second_registration ∷ [], first_registration ∷ second_registration ∷ [], record { same = IsPermutation-refl (first_registration ∷ second_registration ∷ []); order = in_order }, refl, refl),
        (tt, (tt, (tt, tt))),
        (
          Settling None (second_registration ∷ []) tt,
          (inl (tt, [], (factory_of first_registration, (refl, refl, tt)), refl), refl),
          ((record { version = 0; content = Source tt }, refl, refl), (tt, (tt, ((record { version = 0; content = InTurn }, refl, refl), tt)))),
          (
            Settling None [] tt,
            (inl (tt, [], (factory_of second_registration, (refl, refl, tt)), refl), refl),
            ((record { version = 0; content = Source tt }, refl, refl), (tt, (tt, ((record { version = 0; content = InTurn }, refl, refl), tt)))),
            (
              Sleeping None [] tt,
              (refl, refl),
              tt,
              (
                Waiting None tt,
                (refl, refl),
                tt,
                (
                  Gathering 5 [] tt,
                  (Ok 5, [], tt, with_note (Looked false) (record { name = name; notes = Counted 0 ∷ Marked (first_registration ∷ second_registration ∷ []) ∷ [] }), (0, tt, tt, false, [], (tt, (refl, refl), tt), refl, refl), refl, refl),
                  (tt, (tt, tt)),
                  (
                    Noticing 0 [] tt,
                    ([], refl, refl),
                    ((tt, omega arith), tt),
                    (
                      Cutting tt,
                      (refl, refl),
                      tt,
                      (
                        Idling tt,
                        (refl, refl),
                        tt,
                        (
                          RunningIdles tt,
                          (refl, refl),
                          (tt, tt),
                          (
                            Leaving (Ok tt) tt,
                            (refl, refl),
                            tt,
                            refl,
                          ),
                        ),
                      ),
                    ),
                  ),
                ),
              ),
            ),
          ),
        ),
      )
      ),
  refl,
)

pub returns-clause-rearmed : goal.returns-clause-rearmed
returns-clause-rearmed c = λ name. (
  (
    (omega arith, refl, as_armed, after_token (factory_of first_registration), Arm five first_token ∷ [], ((Arm five first_token ∷ [], refl, (refl, refl, refl)), refl), refl),
    (tt, (search rules, (tt, ((record { version = 0; content = InTurn }, refl, refl), tt)))),
  ),
  (
    (
        inr (
          Settling None [] tt,
          (0, [], [], record { same = IsPermutation-refl []; order = λ place t u first second. cc }, refl, refl),
          (tt, (tt, (tt, tt))),
          (
            Sleeping None [] tt,
            (refl, refl),
            tt,
            (
              Waiting None tt,
              (refl, refl),
              tt,
              (
                Gathering 5 [] tt,
                (Ok 5, [], tt, with_note (Looked false) (record { name = name; notes = Counted 0 ∷ Marked [] ∷ [] }), (0, tt, tt, false, [], (tt, (refl, refl), tt), refl, refl), refl, refl),
                (tt, (tt, tt)),
                (
                  Noticing 0 [] tt,
                  ([], refl, refl),
                  ((tt, omega arith), tt),
                  (
                    Cutting tt,
                    (refl, refl),
                    tt,
                    (
                      Serving first_registration as_rearmed (Ok Continue) tt,
                      (
                        as_rearmed,
                        Ok Continue,
                        Call 0 five ∷ ArmAgain 0 ten first_token ∷ [],
                        tt,
                        [],
                        record {
                          inner = record { calls = record { event = five; before = tt; after = tt; answer = ToInstant ten } ∷ []; answer = Ok Continue };
                          turned = inl (first_arm, record { registered = refl; named = refl; unspent = refl; unarmed = refl; action = ToInstant ten; called = refl; more = ArmAgain 0 ten first_token ∷ []; steps_are = refl; answered = (refl, refl, refl) });
                          went = (tt, tt, of_turn (registration_of first_token) no_asks, (refl, refl), asks_nothing (of_turn (registration_of first_token) no_asks), (refl, refl, refl));
                          told = refl;
                        },
                        refl,
                        refl,
                      ),
                      (tt, ((record { version = 0; content = Source as_armed }, refl, refl), ((refl, ((refl, omega arith), tt)), (tt, (tt, tt))))),
                      (
                        Ending first_registration as_rearmed (Ok Continue) tt,
                        (refl, refl),
                        tt,
                        (
                          Returning first_registration as_rearmed (Ok tt) tt,
                          (as_rearmed, Ok tt, (refl, refl, refl), refl),
                          (tt, tt),
                          (
                            Cutting tt,
                            (refl, refl),
                            ((record { version = 0; content = InTurn }, refl, refl), tt),
                            (
                              Idling tt,
                              (refl, refl),
                              tt,
                              (
                                RunningIdles tt,
                                (refl, refl),
                                (tt, tt),
                                (
                                  Leaving (Ok tt) tt,
                                  (refl, refl),
                                  tt,
                                  refl,
                                ),
                              ),
                            ),
                          ),
                        ),
                      ),
                    ),
                  ),
                ),
              ),
            ),
          ),
        )
        ),
    (
      inr (
        Settling None [] tt,
        (0, [], [], record { same = IsPermutation-refl []; order = λ place t u first second. cc }, refl, refl),
        (tt, (tt, (tt, tt))),
        (
          Sleeping None [] tt,
          (refl, refl),
          tt,
          (
            Waiting None tt,
            (refl, refl),
            tt,
            (
              Gathering 10 [] tt,
              (Ok 10, [], tt, with_note (Looked false) (marks_taken [] (after_count 0 (behind_the_first_call name).poll)).watch, (0, tt, tt, false, [], (tt, (refl, refl), tt), refl, refl), refl, refl),
              (tt, (tt, tt)),
              (
                Noticing 0 [] tt,
                ([], refl, refl),
                ((tt, omega arith), tt),
                (
                  Cutting tt,
                  (refl, refl),
                  tt,
                  (
                    Serving first_registration as_called_again (Ok Remove) tt,
                    (
                      as_called_again,
                      Ok Remove,
                      Call 0 ten ∷ [],
                      tt,
                      [],
                      record {
                        inner = record { calls = record { event = ten; before = tt; after = tt; answer = Drop } ∷ []; answer = Ok Remove };
                        turned = inl (armed_for ten first_arm, record { registered = refl; named = refl; unspent = refl; unarmed = refl; action = Drop; called = refl; more = []; steps_are = refl; answered = (refl, refl, refl) });
                        went = (tt, tt, of_turn (registration_of first_token) no_asks, (refl, refl), asks_nothing (of_turn (registration_of first_token) no_asks), (refl, refl, refl));
                        told = refl;
                      },
                      refl,
                      refl,
                    ),
                    (tt, ((record { version = 0; content = Source as_rearmed }, refl, refl), ((refl, tt), (tt, (tt, tt))))),
                    (
                      Ending first_registration as_called_again (Ok Remove) tt,
                      (refl, refl),
                      tt,
                      (
                        Returning first_registration as_called_again (Ok tt) tt,
                        (as_called_again, Ok tt, (refl, refl, refl), refl),
                        (tt, ((record { version = 0; content = InTurn }, refl, refl), tt)),
                        (
                          Cutting tt,
                          ((as_gone, Ok tt, true, Cancel 0 ∷ [], ((refl, refl, refl), refl), refl), refl),
                          ((tt, tt), (tt, (tt, (tt, tt)))),
                          (
                            Idling tt,
                            (refl, refl),
                            tt,
                            (
                              RunningIdles tt,
                              (refl, refl),
                              (tt, tt),
                              (
                                Leaving (Ok tt) tt,
                                (refl, refl),
                                tt,
                                refl,
                              ),
                            ),
                          ),
                        ),
                      ),
                    ),
                  ),
                ),
              ),
            ),
          ),
        ),
      ),
      refl,
    ),
  ),
)

is_new : (name : Book) → IsNew (new_world name)
is_new name =
    record { slots = refl; table = refl; deadlines = refl; batch = refl; passes = refl; pass = refl; places = refl; unwatched = refl; held = refl; handed = refl; ledger = refl }

pub returns-clause-in_time : goal.returns-clause-in_time
returns-clause-in_time c = λ name law. law (rearmed_run name) (returns-clause-rearmed c name) refl (is_new name) ((λ counter. refl, tt), (tt, (tt, tt)))

one_zero : ◌≡◌ {A = ℕ} 1 0 → ⊥
one_zero e = omega arith

is_dispatch : (name : Book) → DispatchedBy anything idle_never giving_poller None tt (Ok tt) tt (visible (behind_the_failure name)) (dispatch_of_the_rest name)
is_dispatch name = (returns-clause-run _ name).1.1.0

-- the changes of the last dispatch after its gathering
abbrev behind_it : Book → List SmallChange
behind_it name = flatten (all_but_first (all_but_first (all_but_first (all_but_first (all_but_first (dispatch_of_the_rest name))))))

pub returns-clause-cuts : goal.returns-clause-cuts
returns-clause-cuts c = λ name law.
    let k = law None tt tt (visible (behind_the_failure name)) (dispatch_of_the_rest name) (is_dispatch name) in
    let at = ap (λ (v : SmallView). events_cut v (behind_it name)) k.1.2.2 in
    one_zero (ap (λ (es : List Pending). length es) (sym (k.1.2.3 ∙ at) ∙ k.2))
