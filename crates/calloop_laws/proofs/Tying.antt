-- What was posted as a dispatch took keys is handed out by its end.
use Rattle.std.proofs.Common.{◌≡◌, ℕ, ◌<◌, ◌≤◌, Bool, true, false, ◌||◌, inl, inr, Some, Ok, Err, List, [], ◌∷◌, ◌++◌, length, refl, sym, ◌∙◌, ap, subst, arith}
use Rattle.std.specs.List.{Contains}
use Rattle.calloop_wake.specs.Boards.{is_marked, bound, keys_within}
use Rattle.calloop_wake.specs.Cells.{IsStanding}
use Rattle.calloop_wake_laws.specs.Kinds.{Born, every_kind, new_cell}
use Rattle.calloop_wake_laws.specs.Wakes.{Kind, WakeWorld, Post, Unpost, after, start, IsCovered}
use Rattle.calloop_wake.specs.declared.notes.Note.{Note}
use Rattle.calloop_wake.specs.declared.notes.Note.TheVariants.{Counted, Unposted, Marked}
use Rattle.calloop_wake_laws.proofs.BothLawful.{covered-cells}
use Rattle.calloop_sources.specs.sources.Deeds.{Lent}
use Rattle.calloop_sources.specs.sources.Meanings.{Meaning}
use Rattle.calloop_poll.specs.sys.Polls.{posted_event}
use Rattle.calloop_poll.specs.sys.Pollers.{Outside}
use Rattle.calloop_loop.specs.declared.LoopCall.{LoopCall}
use Rattle.calloop_loop.specs.declared.LoopCall.TheVariants.{Dispatch}
use Rattle.calloop_loop.specs.declared.LoopAnswer.{LoopAnswer}
use Rattle.calloop_loop.specs.declared.LoopAnswer.TheVariants.{Inserted, Enabled, Updated, Disabled, Removed, Released, Exchanged, Dispatched, IdleInserted, Cancelled, Answered, StopForgotten, Stopped, Poller as OldPoller}
use Rattle.calloop_loop.specs.Askings.{Asks, Runs}
use Rattle.calloop_loop.specs.Machine.{World, View, Change, visible}
use Rattle.calloop_loop.specs.Rules.{after_changes, all_traced, Case, Run}
use Rattle.calloop_loop.proofs.Seen.{seen-all_traced}
use Rattle.calloop_laws.specs.Handed.{IsHandedOut, IsNotedDispatch, looked}
use Rattle.calloop_laws.specs.Histories.{Happening, Noted, IsHistory, end_of, schedule_of, notes_of, OpensNone, IsMadeIn}
use Rattle.calloop_laws.specs.Tied.{IsPinged, IsRung, world_at, Taking, IsServedAt, IsServedOf, IfServed, OfEachDispatch, IsServedWithin}
use Rattle.calloop_laws.proofs.Handing.{noted, run_more}
use Rattle.calloop_laws.proofs.Histories.{AllTokens, all_within, none_left, history-append, end-append, is_schedule, same_end, tokens-end, no_more, marks_come, note_found, notes_found, keys_from, last_keys, keys_taken}

append_assoc : {A : Type 0} (a b c : List A) → (a ++ b) ++ c ≡ a ++ (b ++ c)
append_assoc [] b c = refl
append_assoc (x ∷ xs) b c = rw (append_assoc xs b c) refl

module _ (K : Kind) where
  -- a history in which places are counted and keys are taken
  abbrev pub whole : (ahead between behind : List (Happening K.Own)) → (places : ℕ) → (keys : List ℕ) → List (Happening K.Own)
  whole ahead between behind places keys = ahead ++ Noted (Counted places) ∷ (between ++ Noted (Unposted places keys) ∷ behind)

  -- what is known of the taking
  record Taken (w : WakeWorld K.Cell) (ahead between behind : List (Happening K.Own)) (places : ℕ) (keys : List ℕ) : Type 0 where
    t : WakeWorld K.Cell
    at : end_of K w (ahead ++ Noted (Counted places) ∷ between) ≡ t
    tokens : AllTokens t.board
    few : length t.board ≤ places
    keys_are : keys ≡ keys_within places t.board
    ends : end_of K w (whole ahead between behind places keys) ≡ end_of K (after K t (Unpost (bound places t.board))) behind

  taken : (w : WakeWorld K.Cell) (ahead between behind : List (Happening K.Own)) (places : ℕ) (keys : List ℕ) → AllTokens w.board
      → IsHistory K w (whole ahead between behind places keys) → OpensNone between → Taken w ahead between behind places keys
  taken w ahead between behind places keys t h o =
      let rest = between ++ Noted (Unposted places keys) ∷ behind in
      let a = history-append K w ahead (Noted (Counted places) ∷ rest) h in
      let wa = end_of K w ahead in
      let b = history-append K wa between (Noted (Unposted places keys) ∷ behind) a.1.1 in
      let wb = end_of K wa between in
      let many = no_more K wa between o in
      let counted : places ≡ length wa.board = a.1.0 in
      record {
        t = wb;
        at = end-append K w ahead (Noted (Counted places) ∷ between);
        tokens = tokens-end K wa between b.0 (tokens-end K w ahead a.0 t);
        few = omega (arith, many, counted);
        keys_are = b.1.0;
        ends = end-append K w ahead (Noted (Counted places) ∷ rest) ∙ end-append K wa between (Noted (Unposted places keys) ∷ behind);
      }

  pub each_taken : (w : WakeWorld K.Cell) (ahead between behind : List (Happening K.Own)) (places : ℕ) (keys : List ℕ) → AllTokens w.board
      → IsHistory K w (whole ahead between behind places keys) → OpensNone between
      → (k : ℕ) → is_marked k (end_of K w (ahead ++ Noted (Counted places) ∷ between)).board ≡ true → Contains keys k
  each_taken w ahead between behind places keys t h o k m =
      let f = taken w ahead between behind places keys t h o in
      let there : is_marked k f.t.board ≡ true = subst (λ (u : WakeWorld K.Cell). is_marked k u.board ≡ true) f.at m in
      subst (λ (l : List ℕ). Contains l k) (sym f.keys_are) (all_within k places f.t.board f.tokens f.few there)

  not_both : (b : Bool) → b ≡ true → b ≡ false → ⊥
  not_both b y n = (let f : ◌≡◌ {A = Bool} true false = sym y ∙ n in cc)

  pub posted_since : (w : WakeWorld K.Cell) (ahead between behind : List (Happening K.Own)) (places : ℕ) (keys : List ℕ) → AllTokens w.board
      → IsHistory K w (whole ahead between behind places keys) → OpensNone between
      → (k : ℕ) → is_marked k (end_of K w (whole ahead between behind places keys)).board ≡ true → IsMadeIn (Post k) behind
  posted_since w ahead between behind places keys t h o k m =
      let f = taken w ahead between behind places keys t h o in
      let u = after K f.t (Unpost (bound places f.t.board)) in
      let there : is_marked k (end_of K u behind).board ≡ true = subst (λ (x : WakeWorld K.Cell). is_marked k x.board ≡ true) f.ends m in
      elim (marks_come K k u behind there) [
        | inl y ↦ absurd (not_both (is_marked k u.board) y (none_left k places f.t.board f.tokens f.few))
        | inr y ↦ y
      ]

-- no ring is lost in a history
pub covered : (born : ℕ → Born) (hs : List (Happening every_kind.Own)) → IsHistory every_kind (start (λ n. new_cell (born n))) hs → IsCovered every_kind (end_of every_kind (start (λ n. new_cell (born n))) hs)
covered born hs h =
    let w = start (λ n. new_cell (born n)) in
    subst (λ (u : WakeWorld every_kind.Cell). IsCovered every_kind u) (same_end every_kind w hs) (covered-cells born (schedule_of every_kind w hs) (is_schedule every_kind w hs h))

not_true : (b : Bool) → b ≡ true → b ≡ false → ⊥
not_true b y n = (let f : ◌≡◌ {A = Bool} true false = sym y ∙ n in cc)

module _ {D I P X : Type 0} (M : Meaning D P (Lent X (Asks D I))) where
  -- of a history in these three parts
  served_so : (born : ℕ → Born) (v : View D I P) (css : List (List (Change D I P))) (hs : List (Happening every_kind.Own)) (t : Taking v.poll.watch.notes hs)
      → ((k : ℕ) → Contains t.keys k → IsHandedOut M v css (posted_event k)) → IsHistory every_kind (start (λ n. new_cell (born n))) hs
      → IsServedAt every_kind M (start (λ n. new_cell (born n))) hs v css t
  served_so born v css hs t out h =
      let w = start (λ n. new_cell (born n)) in
      let upto = t.ahead ++ Noted (Counted t.places) ∷ t.between in
      let parts : IsHistory every_kind (start (λ n. new_cell (born n))) (whole every_kind t.ahead t.between t.behind t.places t.keys) =
      subst (λ (l : List (Happening every_kind.Own)). IsHistory every_kind (start (λ n. new_cell (born n))) l) t.is h in
      let same : whole every_kind t.ahead t.between t.behind t.places t.keys ≡ upto ++ Noted (Unposted t.places t.keys) ∷ t.behind =
      sym (append_assoc t.ahead (Noted (Counted t.places) ∷ t.between) (Noted (Unposted t.places t.keys) ∷ t.behind)) in
      let both = history-append every_kind (start (λ n. new_cell (born n))) upto (Noted (Unposted t.places t.keys) ∷ t.behind)
      (subst (λ (l : List (Happening every_kind.Own)). IsHistory every_kind (start (λ n. new_cell (born n))) l) same parts) in
      let first = both.0 in
      record {
        lowest = both.1.0;
        standing = (covered born upto first).standing;
        standing_later = (covered born hs h).standing;
        handed_out = out;
        all_taken = λ o k m. each_taken every_kind w t.ahead t.between t.behind t.places t.keys tt parts o k m;
        rung = λ o c k p.
            (elim ((covered born upto first).pinged c k p.0 p.1) [
              | inl m ↦ inl (out k (each_taken every_kind w t.ahead t.between t.behind t.places t.keys tt parts o k m))
              | inr out' ↦ inr out'
            ]);
        left = λ o c k p.
            (elim ((covered born hs h).pinged c k p.0 p.1) [
              | inl m ↦ inl (posted_since every_kind w t.ahead t.between t.behind t.places t.keys tt parts o k (subst (λ (l : List (Happening every_kind.Own)). is_marked k (end_of every_kind (start (λ n. new_cell (born n))) l).board ≡ true) t.is m))
              | inr out' ↦ inr out'
            ]);
      }

  pub served : (born : ℕ → Born) (v : View D I P) (css : List (List (Change D I P))) → IsNotedDispatch M v css → (hs : List (Happening every_kind.Own))
      → IsHistory every_kind (start (λ n. new_cell (born n))) hs → notes_of hs ≡ (after_changes v css).poll.watch.notes
      → IsServedOf every_kind M (start (λ n. new_cell (born n))) hs v css
  served born v css n hs h tied =
      let f = note_found hs (Counted n.places) v.poll.watch.notes (Marked n.marks ∷ (looked n.looks ++ Unposted n.places n.keys ∷ [])) (tied ∙ n.notes) in
      let g = note_found f.behind (Unposted n.places n.keys) (Marked n.marks ∷ looked n.looks) [] f.notes_behind in
      let noted_keys : keys_from [] (notes_of hs) ≡ n.keys =
      ap (λ (l : List Note). keys_from [] l) (tied ∙ n.notes ∙ sym (append_assoc v.poll.watch.notes (Counted n.places ∷ Marked n.marks ∷ looked n.looks) (Unposted n.places n.keys ∷ [])))
      ∙ last_keys [] (v.poll.watch.notes ++ Counted n.places ∷ Marked n.marks ∷ looked n.looks) n.places n.keys in
      record {
        taking =
            record {
              ahead = f.ahead;
              between = g.ahead;
              behind = g.behind;
              places = n.places;
              keys = n.keys;
              is = f.is ∙ ap (λ (l : List (Happening every_kind.Own)). f.ahead ++ Noted (Counted n.places) ∷ l) g.is;
              began = f.notes_ahead;
              over = g.notes_behind;
            };
        served = λ t.
            (let taken_keys : keys_from [] (notes_of hs) ≡ t.keys = ap (λ (l : List (Happening every_kind.Own)). keys_from [] (notes_of l)) t.is ∙ keys_taken t.ahead t.between t.behind t.places t.keys t.over in
            let same : t.keys ≡ n.keys = sym taken_keys ∙ noted_keys in
            served_so born v css hs t (λ k there. n.handed_out k (subst (λ (l : List ℕ). Contains l k) same there)) h);
        left_over = n.left_over;
      }

  -- a ping that is rung is pinged
  or_first : (a b : Bool) → (a || b) ≡ true → b ≡ false → a ≡ true
  or_first true b h n = refl
  or_first false b h n = absurd (not_true b h n)

  rung_pinged : (w : WakeWorld every_kind.Cell) (n k : ℕ) → IsRung w n k → every_kind.IsStanding (w.cells n) → IsPinged every_kind w n k
  rung_pinged w n k r st =
      let here : IsStanding r.ping = subst (λ (c : every_kind.Cell). every_kind.IsStanding c) r.is st in
      let pinged : r.ping.pinged ≡ true = or_first r.ping.pinged r.ping.draining (here r.due) r.no_turn in (
        subst (λ (c : every_kind.Cell). every_kind.pinged c ≡ true) (sym r.is) pinged,
        subst (λ (c : every_kind.Cell). every_kind.key c ≡ Some k) (sym r.is) r.keyed,
      )

  none_of : (n : ℕ) → 0 < n → n ≡ 0 → ⊥
  none_of n more is = omega (arith, more, is)

  pub ring_served : (born : ℕ → Born) (v : View D I P) (css : List (List (Change D I P))) → IsNotedDispatch M v css → (hs : List (Happening every_kind.Own))
      → IsHistory every_kind (start (λ n. new_cell (born n))) hs → notes_of hs ≡ (after_changes v css).poll.watch.notes
      → (t : Taking v.poll.watch.notes hs) → OpensNone t.between → (n k : ℕ) → IsRung (world_at every_kind (start (λ n. new_cell (born n))) hs t) n k → IsHandedOut M v css (posted_event k)
  ring_served born v css noting hs h tied t o n k r =
      let w = world_at every_kind (start (λ n. new_cell (born n))) hs t in
      let s = (served born v css noting hs h tied).served t in
      elim (s.rung o n k (rung_pinged (world_at every_kind (start (λ n. new_cell (born n))) hs t) n k r (s.standing n))) [
        | inl out ↦ out
        | inr (inl owed) ↦ absurd (none_of (w.debts k) owed r.no_debt)
        | inr (inr held) ↦ absurd (none_of (w.passes k) held r.no_pass)
      ]

module _ {D I P X : Type 0} (M : Meaning D P (Lent X (Asks D I))) (runs : Runs D I X) (O : Outside P) where
  -- a dispatch within a run, of whose history a first part is its own
  within : (born : ℕ → Born) (hs : List (Happening every_kind.Own)) (more : List Note) (v : View D I P) (css : List (List (Change D I P))) → IsNotedDispatch M v css
      → IsHistory every_kind (start (λ n. new_cell (born n))) hs → notes_of hs ≡ (after_changes v css).poll.watch.notes ++ more
      → IsServedWithin every_kind M (start (λ n. new_cell (born n))) hs v css
  within born hs more v css n h tied =
      let f = notes_found hs (after_changes v css).poll.watch.notes more tied in
      record {
        front = f.ahead;
        later = f.behind;
        is = f.is;
        noted = f.notes_ahead;
        served = λ ahead behind is notes.
            served M born v css n ahead
            (history-append every_kind (start (λ n. new_cell (born n))) ahead behind (subst (λ (l : List (Happening every_kind.Own)). IsHistory every_kind (start (λ n. new_cell (born n))) l) is h)).0 notes;
      }

  -- what holds of a dispatch holds if the call was one
  if_served : (T : Type 0) (v : View D I P) (call : LoopCall D P X I) (answer : LoopAnswer D P X I) (css : List (List (Change D I P))) → Case M runs O call answer v css → (IsNotedDispatch M v css → T) → IfServed answer T
  if_served T v (Dispatch timeout x) (Dispatched (Ok u) x') css h f = f (noted M runs O _ x x' v css h)
  if_served T v call (Dispatched (Ok u) x') css h f = absurd h
  if_served T v call (Dispatched (Err e) x') css h f = tt
  if_served T v call (Inserted answer) css h f = tt
  if_served T v call (Enabled answer) css h f = tt
  if_served T v call (Updated answer) css h f = tt
  if_served T v call (Disabled answer) css h f = tt
  if_served T v call (Removed answer) css h f = tt
  if_served T v call (Released answer) css h f = tt
  if_served T v call (Exchanged answer) css h f = tt
  if_served T v call (IdleInserted answer) css h f = tt
  if_served T v call Cancelled css h f = tt
  if_served T v call (Answered answer) css h f = tt
  if_served T v call StopForgotten css h f = tt
  if_served T v call (Stopped found) css h f = tt
  if_served T v call (OldPoller q) css h f = tt

  pub run_served : (born : ℕ → Born) (hs : List (Happening every_kind.Own)) → IsHistory every_kind (start (λ n. new_cell (born n))) hs
      → (calls : List (LoopCall D P X I)) (answers : List (LoopAnswer D P X I)) (csss : List (List (List (Change D I P)))) (w w' : World D I P) → Run M runs O calls answers csss w w'
      → notes_of hs ≡ w'.poll.watch.notes → OfEachDispatch (IsServedWithin every_kind M (start (λ n. new_cell (born n))) hs) answers csss w
  run_served born hs h [] [] [] w w' run tied = tt
  run_served born hs h (call ∷ calls) (answer ∷ answers) (css ∷ csss) w w' run tied =
      let more = run_more M runs O calls answers csss (all_traced w css) w' run.1 in
      let seen : (all_traced w css).poll.watch.notes ≡ (after_changes (visible w) css).poll.watch.notes = ap (λ (v : View D I P). v.poll.watch.notes) (seen-all_traced w css) in (
        if_served (IsServedWithin every_kind M (start (λ n. new_cell (born n))) hs (visible w) css) (visible w) call answer css run.0
            (λ n. within born hs more.0 (visible w) css n h (tied ∙ more.1 ∙ ap (λ (l : List Note). l ++ more.0) seen)),
        run_served born hs h calls answers csss (all_traced w css) w' run.1 tied,
      )
  run_served born hs h calls answers csss w w' run tied = absurd run
