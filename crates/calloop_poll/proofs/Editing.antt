-- What a call for a socket did, by its result.
use Rattle.std.proofs.Common.{◌≡◌, ◌∷◌, [], inl, inr, ℕ, ℤ, true, false, Bool, Option, None, Some, Ok, Err, refl, sym, ◌∙◌, ap, subst, arith, if◌then◌else◌}
use Rattle.std.specs.declared.io.Error.{Error as Cause}
use Rattle.std.specs.declared.io.ErrorKind.{ErrorKind}
use Rattle.std.specs.declared.io.ErrorKind.TheVariants.{NotFound}
use Rattle.std.specs.declared.cmp.Ordering.TheVariants.{Less, Equal, Greater}
use Rattle.std.specs.Ordering.{nat_cmp, is_eq, match_ordering}
use Rattle.std.specs.Map.{keys_of}
use Rattle.std.specs.List.{AllByRecursion}
use Rattle.std.specs.List.Sorted.{IsStrictlySortedBy}
use Rattle.calloop_slots.specs.declared.error.Error.{Error}
use Rattle.calloop_slots.specs.declared.error.Error.TheVariants.{IoError, OutOfMemory}
use Rattle.calloop_poll.specs.declared.sys.Watched.{Watched}
use Rattle.calloop_poll.specs.sys.Pollers.{Outside, Sockets, PollerCall, Add, Modify, asks}
use Rattle.calloop_poll.specs.sys.Tables.{Table, Edit, call_for, deleted_if, unless_in, cannot, grows, call_of, after_edit, Called, CalledFor, with_key, without_key, watched_at}
use Rattle.calloop_poll.specs.sys.Polls.{PollView, IsOfKind, Socket, Fault, with_new_poller}
use Rattle.calloop_poll.specs.sys.SocketCalls.{DidEdit, IsFaulted, TriedUnless}

module _ {P : Type 0} (O : Outside P) (sockets : Sockets P) (v : PollView P) (edit : Edit) (fd : ℤ) where
  pub refused : (kind : ErrorKind) (e : Error) → cannot edit v.table ≡ Some kind → IsOfKind kind e → DidEdit O sockets edit v fd (Err e) v
  refused kind e is of = ([], rw is (e, refl, of, refl), (tt, refl))

  pub no_room : cannot edit v.table ≡ None → grows edit ≡ true → DidEdit O sockets edit v fd (Err OutOfMemory) v
  no_room is more = ([], rw is (inl (more, refl, refl)), (tt, refl))

  faulted_by : (wanted : Option PollerCall) (cause : Cause) (after : P) (w : PollView P) → call_of edit v.table ≡ wanted → cannot edit v.table ≡ None → CalledFor sockets v.poller fd wanted (Err cause) after → Called O v.poller wanted (Err cause) after
      → w ≡ with_new_poller after v → DidEdit O sockets edit v fd (Err (IoError cause)) w
  faulted_by None cause after w is can called out to = (let e = called.0 in cc)
  faulted_by (Some c) cause after w is can called out to =
      let f : IsFaulted sockets v edit fd (IoError cause) (Fault c cause after ∷ []) =
      record { call = c; cause = cause; after = after; wanted = is; told = refl; called = called; stepped = refl } in
      (Fault c cause after ∷ [], subst (λ (k : Option ErrorKind). TriedUnless k sockets v edit fd (Err (IoError cause)) (Fault c cause after ∷ [])) (sym can) (inr f), ((out, tt), to))

  pub faulted : (cause : Cause) (after : P) (w : PollView P) → cannot edit v.table ≡ None → CalledFor sockets v.poller fd (call_of edit v.table) (Err cause) after → Called O v.poller (call_of edit v.table) (Err cause) after
      → w ≡ with_new_poller after v → DidEdit O sockets edit v fd (Err (IoError cause)) w
  faulted cause after w can called out to = faulted_by (call_of edit v.table) cause after w refl can called out to

  pub made : (after : P) (w : PollView P) → cannot edit v.table ≡ None → CalledFor sockets v.poller fd (call_of edit v.table) (Ok tt) after → Called O v.poller (call_of edit v.table) (Ok tt) after
      → w ≡ record v { poller = after; table = after_edit edit v.table } → DidEdit O sockets edit v fd (Ok tt) w
  made after w can called out is =
      (Socket edit after ∷ [], subst (λ (k : Option ErrorKind). TriedUnless k sockets v edit fd (Ok tt) (Socket edit after ∷ [])) (sym can) (after, called, refl), (((can, out), tt), is))

pub can_change : (there taken : Bool) → there ≡ true → taken ≡ false → (if there then unless_in taken else Some NotFound) ≡ None
can_change there taken e f = ap (λ b. if b then unless_in taken else Some NotFound) e ∙ ap (λ b. unless_in b) f

same_key : (k : ℕ) → nat_cmp k k ≡ Equal
same_key k = grind (arith)

-- a key that was entered is removed again
pub left_again : (k : ℕ) (w : Watched) (t : Table) → watched_at k t ≡ None → without_key k (with_key k w t) ≡ t
left_again k w [] none = ap (λ o. if is_eq o then [] else (k, w) ∷ []) (same_key k)
left_again k w (e ∷ es) none =
    elim (nat_cmp k e.0) as (λ o. (if is_eq o then Some e.1 else watched_at k es) ≡ None → nat_cmp k e.0 ≡ o → without_key k (match_ordering o ((k, w) ∷ e ∷ es) ((e.0, w) ∷ es) (e ∷ with_key k w es)) ≡ e ∷ es) [
      | Less ↦ λ n is. ap (λ o. if is_eq o then e ∷ es else (k, w) ∷ without_key k (e ∷ es)) (same_key k)
      | Equal ↦ λ n is. cc
      | Greater ↦ λ n is. ap (λ o. if is_eq o then with_key k w es else e ∷ without_key k (with_key k w es)) is ∙ ap (λ l. e ∷ l) (left_again k w es n)
    ] none refl

-- nothing is found under a key that is less than all keys
below_all : (k j : ℕ) (t : Table) → nat_cmp k j ≡ Less → AllByRecursion (λ y. nat_cmp j y ≡ Less) (keys_of t) → watched_at k t ≡ None
below_all k j [] lt above = refl
below_all k j (e ∷ es) lt above =
    let this = above.0 in
    let rest = below_all k j es lt above.1 in
    let less : nat_cmp k e.0 ≡ Less = grind arith in
    ap (λ o. if is_eq o then Some e.1 else watched_at k es) less ∙ rest

-- entering again what is already under a key changes nothing
pub entered_again : (k : ℕ) (w : Watched) (t : Table) → IsStrictlySortedBy nat_cmp (keys_of t) → watched_at k t ≡ Some w → with_key k w t ≡ t
unfolding IsStrictlySortedBy
entered_again k w [] sorted is = cc
entered_again k w (e ∷ es) sorted is =
    elim (nat_cmp k e.0) as (λ o. (if is_eq o then Some e.1 else watched_at k es) ≡ Some w → nat_cmp k e.0 ≡ o → match_ordering o ((k, w) ∷ e ∷ es) ((e.0, w) ∷ es) (e ∷ with_key k w es) ≡ e ∷ es) [
      | Less ↦ λ n is. (let none = below_all k e.0 es is sorted.0 in cc)
      | Equal ↦ λ n is. (let same : e.1 ≡ w = cc in ap (λ x. (e.0, x) ∷ es) (sym same))
      | Greater ↦ λ n is. ap (λ l. e ∷ l) (entered_again k w es sorted.1 n)
    ] is refl

-- a poller that keeps levels does nothing for a socket that is registered just so
module _ {P : Type 0} (O : Outside P) (sockets : Sockets P) (p : P) (fd : ℤ) (key : ℕ) (w : Watched) where
  pub kept_for : (asks w.interest ≡ true → sockets p fd (Modify key w) (Ok tt) p) → CalledFor sockets p fd (call_for (asks w.interest) key w) (Ok tt) p
  kept_for h =
      elim (asks w.interest) as (λ b. asks w.interest ≡ b → CalledFor sockets p fd (if b then Some (if b then Modify key w else Add key w) else deleted_if b) (Ok tt) p) [
        | true ↦ λ e. h e
        | false ↦ λ e. (refl, refl)
      ] refl

  pub kept : (asks w.interest ≡ true → O.calls p (Modify key w) (Ok tt) p) → Called O p (call_for (asks w.interest) key w) (Ok tt) p
  kept h =
      elim (asks w.interest) as (λ b. asks w.interest ≡ b → Called O p (if b then Some (if b then Modify key w else Add key w) else deleted_if b) (Ok tt) p) [
        | true ↦ λ e. (h e, grind (arith))
        | false ↦ λ e. (refl, refl)
      ] refl
