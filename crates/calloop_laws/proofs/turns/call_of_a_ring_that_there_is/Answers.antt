use Rattle.std.proofs.Common.{◌≡◌, refl, subst, [], ◌∷◌, None, Some, Ok, inl, inr, true, false, Result, arith}
use Rattle.logbook.specs.Pages.{Book}
use Rattle.std.proofs.lemmas.List.Sorted.{IsPermutation-refl}
use Rattle.calloop_slots.specs.declared.error.Error.{Error}
use Rattle.calloop_slots.specs.declared.list.Content.TheVariants.{Source, InTurn}
use Rattle.calloop_wake.specs.Cells.{fresh}
use Rattle.calloop_wake_laws.specs.Kinds.{APing, every_kind}
use Rattle.calloop_wake_laws.specs.Lost.{of_pings}
use Rattle.calloop_wake_laws.specs.Wakes.{Loop, Awake, Asleep}
use Rattle.calloop_wake.specs.Watches.{with_note}
use Rattle.calloop_wake.specs.declared.notes.Note.TheVariants.{Counted, Looked, Marked}
use Rattle.calloop_sources.specs.declared.sources.source.PostAction.{PostAction}
use Rattle.calloop_sources.specs.declared.sources.source.PostAction.TheVariants.{Continue}
use Rattle.calloop_sources.specs.sources.Calls.{Went}
use Rattle.calloop_poll.specs.sys.Polls.{TakePass, posted_event}
use Rattle.calloop_ends.specs.ping.Pings.{PingCalls, calls_of}
use Rattle.calloop_loop.specs.Rules.{Doing, CutTo, Settling, Sleeping, Waiting, Gathering, Noticing, Cutting, Serving, Ending, Returning, Idling, RunningIdles, Leaving, after_changes}
use Rattle.calloop_laws.specs.Wrong.{first_registration}
use Rattle.calloop_laws.specs.Examples.{history_of_a_ring, turn_in_it}
use Rattle.calloop_laws.specs.Handed.{IsHandedOut}
use Rattle.calloop_laws.specs.Histories.{IsHistory}
use Rattle.calloop_laws.specs.Tied.{Taking, IsRung, world_at}
use Rattle.calloop_laws.specs.Called.{IsTurnIn, IsPingsTurnIn, IsAtRest, world_behind_it}
use Rattle.calloop_laws.specs.Rung.{Rings, RingAsks, is_never_called, asks_anything, ringing, unknown, ping_before, ping_after, with_a_ping, of_a_call, up_to_its_turn, its_turn, behind_its_turn}
use Rattle.calloop_laws.proofs.Refuting.{taking_of_a_ring}
use Rattle.calloop_laws.proofs.turns.call_of_a_ring_that_there_is.Goals as goal

-- the turn of the ping, with its one call
abbrev served : Book → Doing Rings (Unit {0})
served name = Serving first_registration (ping_after name) (Ok Continue) tt

cut_to_it : (name : Book) → CutTo ringing (posted_event 0) (Source (ping_before name)) (after_changes (with_a_ping name) (up_to_its_turn name)) tt its_turn (served name)
cut_to_it name = (
  ping_after name,
  Ok Continue,
  TakePass ∷ [],
  tt,
  [],
  record {
    inner = record { calls = calls_of true; answer = Ok Continue };
    turned = inl ((true, false, refl, refl, refl), refl);
    went = (tt, tt, _, tt, tt, (refl, refl, refl));
    told = refl;
  },
  refl,
  refl,
)

pub returns-clause-dispatch : goal.returns-clause-dispatch
returns-clause-dispatch c = λ name. inr (
  Settling None [] tt,
  (1, [], [], record { same = IsPermutation-refl []; order = λ place t u first second. cc }, refl, refl),
  (tt, (tt, (tt, tt))),
  (
    Sleeping None [] tt,
    (refl, refl),
    tt,
    (
      Waiting None tt,
      (refl, refl),
      tt,
      (
        Gathering 5 [] tt,
        (Ok 5, [], tt, with_note (Looked true) (record { name = name; notes = Counted 1 ∷ Marked [] ∷ [] }), (0, tt, tt, true, [], (tt, (refl, refl), tt), refl, refl), refl, refl),
        (tt, (tt, tt)),
        (
          Noticing 0 [] tt,
          (0 ∷ [], refl, refl),
          (((omega arith, tt), omega arith), tt),
          (
            Cutting tt,
            (refl, refl),
            tt,
            (
              served name,
              cut_to_it name,
              (tt, ((record { version = 0; content = Source (ping_before name) }, refl, refl), ((tt, tt), (tt, (tt, tt))))),
              (
                Ending first_registration (ping_after name) (Ok Continue) tt,
                (refl, refl),
                tt,
                (
                  Returning first_registration (ping_after name) (Ok tt) tt,
                  (ping_after name, Ok tt, (refl, refl, refl), refl),
                  (tt, tt),
                  (
                    Cutting tt,
                    (refl, refl),
                    ((record { version = 0; content = InTurn }, refl, refl), tt),
                    (
                      Idling tt,
                      (refl, refl),
                      tt,
                      (
                        RunningIdles tt,
                        (refl, refl),
                        (tt, tt),
                        (
                          Leaving (Ok tt) tt,
                          (refl, refl),
                          tt,
                          refl,
                        ),
                      ),
                    ),
                  ),
                ),
              ),
            ),
          ),
        ),
      ),
    ),
  ),
)

-- at which change its event is handed out, by its meaning or by any
abbrev handed_out : (name : Book) → IsHandedOut ringing (with_a_ping name) (of_a_call name) (posted_event 0)
handed_out name =
    record { ahead = up_to_its_turn name; changes = its_turn; behind = behind_its_turn name; is = refl; others = []; first = refl; x = tt; next = served name; cut = cut_to_it name }

abbrev handed_out_unknown : (name : Book) → IsHandedOut unknown (with_a_ping name) (of_a_call name) (posted_event 0)
handed_out_unknown name =
    record {
      ahead = up_to_its_turn name;
      changes = its_turn;
      behind = behind_its_turn name;
      is = refl;
      others = [];
      first = refl;
      x = tt;
      next = served name;
      cut = (ping_after name, Ok Continue, TakePass ∷ [], tt, [], tt, refl, refl);
    }

-- the taking of the key, and the ring that is pending then
abbrev its_taking : (name : Book) → Taking (with_a_ping name).poll.watch.notes history_of_a_ring
its_taking name = taking_of_a_ring name

abbrev rung : (name : Book) → IsRung (world_at every_kind of_pings history_of_a_ring (its_taking name)) 0 0
rung name = record { ping = record fresh { rung = true; pinged = true; key = Some 0 }; is = refl; due = refl; no_turn = refl; keyed = refl; no_debt = refl; no_pass = refl }

turn_of_it : (name : Book) → IsPingsTurnIn (world_behind_it every_kind of_pings history_of_a_ring (its_taking name)) turn_in_it 0 0 (ping_before name).source (ping_after name).source
turn_of_it name =
    record {
      asked = record { earlier = []; later = _; is = refl; same_key = tt };
      core = record { cell = record fresh { rung = true; pinged = true; key = Some 0 }; name = name; board = name; rings = 1; seen = 0; taken = 0 };
      there = refl;
      counted = refl;
    }

awake : ◌≡◌ {A = Loop} Awake Asleep → ⊥
awake e = cc

history : IsHistory every_kind of_pings history_of_a_ring
history = (
  (omega arith, refl),
  ((tt, omega arith), ((tt, tt), ((tt, omega arith), (refl, (tt, ((refl, λ e. awake e), ((tt, omega arith), (refl, ((tt, omega arith), ((tt, refl), tt)))))))))),
)

-- what is served behind it is just this
told : (name : Book) (after : Rings) (answer : Result PostAction Error) (x : Unit {0}) → served name ≡ Serving first_registration after answer x
    → IsPingsTurnIn (world_behind_it every_kind of_pings history_of_a_ring (its_taking name)) turn_in_it 0 0 (ping_before name).source after.source
told name after answer x same =
    let it : ping_after name ≡ after = cc in
    subst (λ (d : Rings). IsPingsTurnIn (world_behind_it every_kind of_pings history_of_a_ring (its_taking name)) turn_in_it 0 0 (ping_before name).source d.source) it (turn_of_it name)

pub returns-clause-called : goal.returns-clause-called
returns-clause-called c = λ name law. (
  handed_out name,
  law None tt tt (with_a_ping name) (of_a_call name) (returns-clause-dispatch c name) (λ _. APing) history_of_a_ring history (its_taking name) 0 0 (rung name) refl
      (handed_out name) (ping_before name) refl (told name),
)

-- no call of it can have gone to the callback
never : (q r : RingAsks) (f g x y : Unit {0}) (calls : PingCalls) → calls ≡ calls_of true → Went is_never_called asks_anything f x q calls g y r → ⊥
never q r f g x y calls one went =
    (subst (λ (l : PingCalls). Went is_never_called asks_anything f x q l g y r) one went).3

pub returns-clause-silent : goal.returns-clause-silent
returns-clause-silent c = λ name law.
    let called = law (λ _. APing) history_of_a_ring history (its_taking name) 0 0 (rung name) refl (handed_out_unknown name) (ping_before name) refl (told name) in
    never _ _ _ _ _ _ called.0.calls called.1 called.0.went

at_rest : (name : Book) → IsAtRest (world_at every_kind of_pings history_of_a_ring (its_taking name)) 0 0
at_rest name = record { keyed = refl; no_turn = refl; no_pass = refl }

counted : (name : Book) (after : Rings) (answer : Result PostAction Error) (x : Unit {0}) → served name ≡ Serving first_registration after answer x
    → IsTurnIn (world_behind_it every_kind of_pings history_of_a_ring (its_taking name)) turn_in_it 0 0 (ping_before name).source after.source
counted name after answer x same =
    let it : ping_after name ≡ after = cc in
    subst (λ (d : Rings). IsTurnIn (world_behind_it every_kind of_pings history_of_a_ring (its_taking name)) turn_in_it 0 0 (ping_before name).source d.source) it
    (record { asked = record { earlier = []; later = _; is = refl; same_key = tt }; counted = refl })

pub returns-clause-opened : goal.returns-clause-opened
returns-clause-opened c = λ name law. (
  handed_out name,
  law None tt tt (with_a_ping name) (of_a_call name) (returns-clause-dispatch c name) (λ _. APing) history_of_a_ring history (its_taking name) 0 0 (at_rest name)
      (handed_out name) (ping_before name) refl (counted name),
)

pub returns-clause-unopened : goal.returns-clause-unopened
returns-clause-unopened c = λ name law.
    (law (λ _. APing) history_of_a_ring history (its_taking name) 0 0 (at_rest name) (handed_out_unknown name) (ping_before name) refl (counted name)).opened
