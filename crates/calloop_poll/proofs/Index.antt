-- The index by slot follows the table.
use Rattle.std.proofs.Common.{◌≡◌, ◌≢◌, ◌∷◌, [], List, ℕ, zero, suc, true, false, nat_eq, if◌then◌else◌, Option, None, Some, set, refl, sym, ◌∙◌, ap, subst, arith, eqb-true, false-eqb}
use Rattle.std.proofs.lemmas.List.{get_or-set_other}
use Rattle.std.specs.declared.cmp.Ordering.TheVariants.{Less, Equal, Greater}
use Rattle.std.specs.Ordering.{nat_cmp, is_eq, match_ordering}
use Rattle.calloop_poll.specs.declared.sys.Watched.{Watched}
use Rattle.calloop_poll.specs.declared.sys.poll.socket_table.Indexed.{Indexed}
use Rattle.calloop_poll.specs.sys.Tables.{Table, with_key, without_key, watched_at, indexed_at, IsIndexOf}
use Rattle.calloop_slots.specs.Tokens.{slot_of_key}
use Rattle.calloop_poll.proofs.Frames.{entered_elsewhere, left_elsewhere}

own_key : (k : ℕ) → is_eq (nat_cmp k k) ≡ true
own_key k = elim (nat_cmp k k) as (λ o. nat_cmp k k ≡ o → is_eq o ≡ true) [ Less ↦ λ e. absurd (grind (arith)) | Equal ↦ λ e. refl | Greater ↦ λ e. absurd (grind (arith)) ] refl

entered_here : (k : ℕ) (w : Watched) (t : Table) → watched_at k (with_key k w t) ≡ Some w
entered_here k w [] = ap (λ b. if b then Some w else None) (own_key k)
entered_here k w (e ∷ es) =
    elim (nat_cmp k e.0) as (λ o. nat_cmp k e.0 ≡ o → watched_at k (match_ordering o ((k, w) ∷ e ∷ es) ((e.0, w) ∷ es) (e ∷ with_key k w es)) ≡ Some w) [
      | Less ↦ λ is. ap (λ b. if b then Some w else watched_at k (e ∷ es)) (own_key k)
      | Equal ↦ λ is. ap (λ o. if is_eq o then Some w else watched_at k es) is
      | Greater ↦ λ is. ap (λ o. if is_eq o then Some e.1 else watched_at k (with_key k w es)) is ∙ entered_here k w es
    ] refl

set_gives : (index : List (Option Indexed)) (slot : ℕ) (put : Option Indexed) (e : Indexed) → indexed_at slot (set index slot put) ≡ Some e → put ≡ Some e
set_gives [] slot put e h = absurd (cc)
set_gives (x ∷ xs) zero put e h = h
set_gives (x ∷ xs) (suc slot) put e h = set_gives xs slot put e h

set_keeps : (index : List (Option Indexed)) (slot other : ℕ) (put : Option Indexed) → nat_eq other slot ≡ false → indexed_at other (set index slot put) ≡ indexed_at other index
set_keeps index slot other put apart = get_or-set_other index slot other put None (false-eqb other slot (sym apart))

abbrev the : ℕ → Watched → Indexed
the k w = record { key = k; watched = w }

same_parts : (k q : ℕ) (w v : Watched) → Some (the k w) ≡ Some (the q v) → (k ≡ q) × (w ≡ v)
same_parts k q w v h = let one : the k w ≡ the q v = cc in (ap (λ (x : Indexed). x.key) one, ap (λ (x : Indexed). x.watched) one)

-- an entry put under a key
pub index-with : (k : ℕ) (w : Watched) (index : List (Option Indexed)) (t : Table) → IsIndexOf index t → IsIndexOf (set index (slot_of_key k) (Some (record { key = k; watched = w }))) (with_key k w t)
index-with k w index t h q v at =
    elim (nat_eq (slot_of_key q) (slot_of_key k)) as (λ b. nat_eq (slot_of_key q) (slot_of_key k) ≡ b → watched_at q (with_key k w t) ≡ Some v) [
      | true ↦ λ e.
          let there : indexed_at (slot_of_key k) (set index (slot_of_key k) (Some (the k w))) ≡ Some (the q v) = subst (λ (s : ℕ). indexed_at s (set index (slot_of_key k) (Some (the k w))) ≡ Some (the q v)) (eqb-true (slot_of_key q) (slot_of_key k) e) at in
          let same : (k ≡ q) × (w ≡ v) = same_parts k q w v (set_gives index (slot_of_key k) (Some (the k w)) (the q v) there) in
          subst (λ (p : ℕ). watched_at p (with_key k w t) ≡ Some v) same.0 (entered_here k w t ∙ ap Some same.1)
      | false ↦ λ e.
          let apart : k ≢ q = λ same. false-eqb (slot_of_key q) (slot_of_key k) (sym e) (ap slot_of_key (sym same)) in
          entered_elsewhere k q w t apart ∙ h q v (sym (set_keeps index (slot_of_key k) (slot_of_key q) (Some (the k w)) e) ∙ at)
    ] refl

-- an entry taken from a key
pub index-without : (k : ℕ) (index : List (Option Indexed)) (t : Table) → IsIndexOf index t → IsIndexOf (set index (slot_of_key k) None) (without_key k t)
index-without k index t h q v at =
    elim (nat_eq (slot_of_key q) (slot_of_key k)) as (λ b. nat_eq (slot_of_key q) (slot_of_key k) ≡ b → watched_at q (without_key k t) ≡ Some v) [
      | true ↦ λ e. (let here : None ≡ Some (the q v) = set_gives index (slot_of_key k) None (the q v) (subst (λ (s : ℕ). indexed_at s (set index (slot_of_key k) None) ≡ Some (the q v)) (eqb-true (slot_of_key q) (slot_of_key k) e) at) in cc)
      | false ↦ λ e.
          let apart : k ≢ q = λ same. false-eqb (slot_of_key q) (slot_of_key k) (sym e) (ap slot_of_key (sym same)) in
          left_elsewhere k q t apart ∙ h q v (sym (set_keeps index (slot_of_key k) (slot_of_key q) None e) ∙ at)
    ] refl

-- what the index has is in the table
pub index-tells : (index : List (Option Indexed)) (t : Table) → IsIndexOf index t → (k : ℕ) (e : Indexed) → e.key ≡ k → indexed_at (slot_of_key k) index ≡ Some e → watched_at k t ≡ Some e.watched
index-tells index t h k e is at = h k e.watched (at ∙ ap (λ (j : ℕ). Some (record { key = j; watched = e.watched })) is)

-- an entry taken from the index alone
pub index-doubt : (k : ℕ) (index : List (Option Indexed)) (t : Table) → IsIndexOf index t → IsIndexOf (set index (slot_of_key k) None) t
index-doubt k index t h q v at =
    elim (nat_eq (slot_of_key q) (slot_of_key k)) as (λ b. nat_eq (slot_of_key q) (slot_of_key k) ≡ b → watched_at q t ≡ Some v) [
      | true ↦ λ e. (let here : None ≡ Some (the q v) = set_gives index (slot_of_key k) None (the q v) (subst (λ (s : ℕ). indexed_at s (set index (slot_of_key k) None) ≡ Some (the q v)) (eqb-true (slot_of_key q) (slot_of_key k) e) at) in cc)
      | false ↦ λ e. h q v (sym (set_keeps index (slot_of_key k) (slot_of_key q) None e) ∙ at)
    ] refl
