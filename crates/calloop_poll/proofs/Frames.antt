-- Steps of one registration leave the keys of another as they were.
use Rattle.std.proofs.Common.{◌≡◌, ◌≢◌, ◌∷◌, [], List, ℕ, true, false, nat_eq, if◌then◌else◌, None, Some, refl, sym, ◌∙◌, ap, subst, arith}
use Rattle.std.specs.declared.cmp.Ordering.TheVariants.{Less, Equal, Greater}
use Rattle.std.specs.Ordering.{nat_cmp, is_eq, match_ordering}
use Rattle.calloop_slots.specs.declared.token.RegistrationToken.{RegistrationToken}
use Rattle.calloop_slots.specs.Tokens.{key_of}
use Rattle.calloop_poll.specs.declared.sys.Watched.{Watched}
use Rattle.calloop_poll.specs.sys.Tables.{Table, Edit, Enter, Change, Leave, Discard, after_edit, with_key, without_key, watched_at, moved_to}
use Rattle.calloop_poll.specs.sys.Polls.{PollView, PollStep, TakePass, PutBack, Arm, ArmAgain, Cancel, Call, ReadClock, Socket, Fault, poll_after, polls_after}
use Rattle.calloop_poll.specs.sys.Keys.{IsKeyOf, EditsFor, AllActFor}

other_key : (q k : ℕ) → k ≢ q → is_eq (nat_cmp q k) ≡ false
other_key q k apart = elim (nat_cmp q k) as (λ o. nat_cmp q k ≡ o → is_eq o ≡ false) [ Less ↦ λ e. refl | Equal ↦ λ e. absurd (apart (grind (arith))) | Greater ↦ λ e. refl ] refl

pub equal_keys : (k q : ℕ) → nat_cmp k q ≡ Equal → k ≡ q
equal_keys k q e = grind (arith)

pub entered_elsewhere : (k q : ℕ) (w : Watched) (t : Table) → k ≢ q → watched_at q (with_key k w t) ≡ watched_at q t
entered_elsewhere k q w [] apart = ap (λ b. if b then Some w else None) (other_key q k apart)
entered_elsewhere k q w (e ∷ es) apart =
    elim (nat_cmp k e.0) as (λ o. nat_cmp k e.0 ≡ o → watched_at q (match_ordering o ((k, w) ∷ e ∷ es) ((e.0, w) ∷ es) (e ∷ with_key k w es)) ≡ watched_at q (e ∷ es)) [
      | Less ↦ λ is. ap (λ b. if b then Some w else watched_at q (e ∷ es)) (other_key q k apart)
      | Equal ↦ λ is. (let other : e.0 ≢ q = λ x. apart (equal_keys k e.0 is ∙ x) in ap (λ b. if b then Some w else watched_at q es) (other_key q e.0 other) ∙ sym (ap (λ b. if b then Some e.1 else watched_at q es) (other_key q e.0 other)))
      | Greater ↦ λ is. ap (λ o. if is_eq (nat_cmp q e.0) then Some e.1 else o) (entered_elsewhere k q w es apart)
    ] refl

pub left_elsewhere : (k q : ℕ) (t : Table) → k ≢ q → watched_at q (without_key k t) ≡ watched_at q t
left_elsewhere k q [] apart = refl
left_elsewhere k q (e ∷ es) apart =
    elim (nat_cmp k e.0) as (λ o. nat_cmp k e.0 ≡ o → watched_at q (if is_eq o then es else e ∷ without_key k es) ≡ watched_at q (e ∷ es)) [
      | Less ↦ λ is. ap (λ o. if is_eq (nat_cmp q e.0) then Some e.1 else o) (left_elsewhere k q es apart)
      | Equal ↦ λ is. (let other : e.0 ≢ q = λ x. apart (equal_keys k e.0 is ∙ x) in sym (ap (λ b. if b then Some e.1 else watched_at q es) (other_key q e.0 other)))
      | Greater ↦ λ is. ap (λ o. if is_eq (nat_cmp q e.0) then Some e.1 else o) (left_elsewhere k q es apart)
    ] refl

moved_elsewhere : (before key q : ℕ) (w : Watched) (t : Table) → before ≢ q → key ≢ q → watched_at q (moved_to before key w t) ≡ watched_at q t
moved_elsewhere before key q w t one other =
    elim (nat_eq before key) as (λ b. watched_at q (if b then with_key key w t else without_key before (with_key key w t)) ≡ watched_at q t)
    [ true ↦ entered_elsewhere key q w t other | false ↦ left_elsewhere before q (with_key key w t) one ∙ entered_elsewhere key q w t other ]

apart_from : (r : RegistrationToken) (key own : ℕ) → ¬ IsKeyOf r key → IsKeyOf r own → own ≢ key
apart_from r key own away of is = away (subst (λ (k : ℕ). IsKeyOf r k) is of)

edited_elsewhere : (r : RegistrationToken) (key : ℕ) (edit : Edit) (t : Table) → ¬ IsKeyOf r key → EditsFor r edit → watched_at key (after_edit edit t) ≡ watched_at key t
edited_elsewhere r key (Enter token w) t away of = entered_elsewhere (key_of token) key w t (apart_from r key _ away of)
edited_elsewhere r key (Change before token w) t away of = moved_elsewhere (key_of before) (key_of token) key w t (apart_from r key _ away of.0) (apart_from r key _ away of.1)
edited_elsewhere r key (Leave token) t away of = left_elsewhere (key_of token) key t (apart_from r key _ away of)
edited_elsewhere r key (Discard token) t away of = left_elsewhere (key_of token) key t (apart_from r key _ away of)

pub stepped_elsewhere : {P : Type 0} (r : RegistrationToken) (key : ℕ) (v : PollView P) (l : List (PollStep P)) → ¬ IsKeyOf r key → AllActFor r l → watched_at key (polls_after v l).table ≡ watched_at key v.table
stepped_elsewhere r key v [] away h = refl
stepped_elsewhere r key v (Socket edit after ∷ ss) away h = stepped_elsewhere r key (poll_after v (Socket edit after)) ss away h.1 ∙ edited_elsewhere r key edit v.table away h.0
stepped_elsewhere r key v (Fault call cause after ∷ ss) away h = stepped_elsewhere r key (poll_after v (Fault call cause after)) ss away h.1
stepped_elsewhere r key v (Arm deadline token ∷ ss) away h = stepped_elsewhere r key (poll_after v (Arm deadline token)) ss away h.1
stepped_elsewhere r key v (ArmAgain counter deadline token ∷ ss) away h = stepped_elsewhere r key (poll_after v (ArmAgain counter deadline token)) ss away h.1
stepped_elsewhere r key v (Cancel counter ∷ ss) away h = stepped_elsewhere r key (poll_after v (Cancel counter)) ss away h.1
stepped_elsewhere r key v (Call counter deadline ∷ ss) away h = stepped_elsewhere r key v ss away h.1
stepped_elsewhere r key v (TakePass ∷ ss) away h = stepped_elsewhere r key (poll_after v TakePass) ss away h.1
stepped_elsewhere r key v (PutBack pass ∷ ss) away h = stepped_elsewhere r key (poll_after v (PutBack pass)) ss away h.1
stepped_elsewhere r key v (ReadClock now after ∷ ss) away h = stepped_elsewhere r key (poll_after v (ReadClock now after)) ss away h.1
