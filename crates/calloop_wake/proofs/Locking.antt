-- Each step of a lock keeps its rule.
use Rattle.std.proofs.Common.{◌≡◌, ◌<◌, ◌+◌, ◌==◌, ◌⊎◌, ℕ, zero, suc, Bool, inl, inr, List, [], ◌∷◌, get_or, set, length, sym, refl, ◌∙◌, subst, ap, arith, length-set, get_or-set_same}
use Rattle.std.proofs.lemmas.Bool.Decides.{eqb_tells}
use prog.Atomic.{either}
use mathlib.Core.Logic.{dite}
use mathlib.Core.Option.{some}
use native.Mathlib.Decide.{ℕ_discrete}
use Rattle.atomic_table.specs.Table.{Me, State, rest, keeps, takes, gives, Allows, Arrives, Enters}
use Rattle.calloop_wake.specs.Locks.{IsLock, IsTaken, IsOut, OfContent, IsHinted, WasHintedBy}

-- a word that is exchanged for itself
pub either_same : (found word : ℕ) → either (found == word) word found ≡ found
either_same found word = elim (eqb_tells found word) [
  | inl t ↦ ap (λ (b : Bool). either b word found) t.0 ∙ sym t.1
  | inr f ↦ ap (λ (b : Bool). either b word found) f.0
]

module _ {A : Type 0} where
  pub set_here : (l : List A) (i : ℕ) (a : A) → i < length l → lib.ListN.get_elem? (set l i a) i ≡ some a
  set_here [] i a h = absurd (omega arith)
  set_here (x ∷ xs) zero a h = refl
  set_here (x ∷ xs) (suc i) a h = set_here xs i a (omega arith)

module _ {S : Type 0} where
  pub is_out : (taken : List (ℕ × S)) → IsOut taken → (content : S) × (taken ≡ (0, content) ∷ rest taken)
  is_out [] out = absurd out
  is_out (x ∷ xs) out = (x.1, ap (λ k. (k, x.1) ∷ xs) out)

  pub of_content : (P : S → Type 0) (taken : List (ℕ × S)) (content : S) → taken ≡ (0, content) ∷ rest taken → OfContent P taken → P content
  of_content P taken content is of = subst (OfContent P) is of

module _ {S : Type 0} (fits : S → Type 0) (hints : ℕ → S → Type 0) where
  pub without_hint : (taken : List (ℕ × S)) → IsTaken fits taken → IsTaken (λ content. fits content × IsHinted fits hints 0 content) taken
  without_hint [] t = absurd t.0
  without_hint (x ∷ xs) t = (t.0, (t.1, λ n e. absurd (omega arith)))

  -- the word is that of the hint, or of no hint
  pub told : (number word : ℕ) → (word ≡ number + 2) ⊎ (word ≡ 0) → (taken : List (ℕ × S)) → IsTaken (λ content. fits content × hints number content) taken
      → IsTaken (λ content. fits content × IsHinted fits hints word content) taken
  told number word is [] t = absurd t.0
  told number word (inl is) (x ∷ xs) t = (t.0, (t.1.0, λ n e. subst (λ (k : ℕ). hints k x.1) (omega arith) t.1.1))
  told number word (inr is) (x ∷ xs) t = (t.0, (t.1.0, λ n e. absurd (omega arith)))

module _ {S V : Type 0} (fits : S → Type 0) (hints : ℕ → S → Type 0) where
  -- the content comes back under a word whose hint holds
  pub gives_back : (id word : ℕ) (m : Me S V) → IsTaken (λ content. fits content × IsHinted fits hints word content) m.1
      → Allows (IsLock fits hints) 1 id m 0 (λ _. word) (λ _ _. Unit {0})
  gives_back id word (v, []) out = absurd out.0
  gives_back id word (v, x ∷ xs) out = subst (λ (k : ℕ). Allows (IsLock fits hints) 1 id (v, (k, x.1) ∷ xs) 0 (λ _. word) (λ _ _. Unit {0})) (sym out.0)
      (λ s g wide me _. let one = get_or-set_same s.words 0 word 0 (omega arith) in
      (v, gives, tt, (length-set s.words 0 word ∙ g.0, λ _. (x.1, set_here s.homes 0 (some x.1) (omega arith), out.1.0, λ n e. out.1.1 n (sym one ∙ e))), tt))

  pub takes_out : (n : ℕ) (v : V) → Arrives {V = V} (IsLock fits hints) n 0 (λ _. 1) (λ r m. ¬ (r ≡ 1) → IsTaken fits m.1)
  takes_out n v s g wide _ = let long = g.0 in let one = get_or-set_same s.words 0 1 0 (omega arith) in
      dite (ℕ_discrete (get_or s.words 0 0) 1)
      (λ held. (v, keeps, tt, (length-set s.words 0 1 ∙ long, λ e. absurd (e one)), λ e. absurd (e held)))
      (λ free. let t = g.1 free in (v, takes 0 t.0, t.1, (length-set s.words 0 1 ∙ long, λ e. absurd (e one)), λ _. (refl, t.2)))

  -- the content found is as the word says
  pub says : (s : State S V) → IsLock fits hints s → WasHintedBy fits hints (get_or s.words 0 0)
  says s g n e = let t = g.1 (λ held. absurd (omega arith)) in (t.0, t.2, t.3 n e)

  pub looks : (n : ℕ) (v : V) → Enters (IsLock fits hints) n 0 (λ r w. (w ≡ v) × WasHintedBy fits hints r)
  looks n v s g wide _ = (v, g, (refl, says s g))

-- writing the word unchanged changes nothing
pub looks_again : {S V : Type 0} (fits : V → S → Type 0) (hints : ℕ → S → Type 0) (slots id word : ℕ) (m : Me S V) (key : V) → m.0 ≡ key
    → Allows (IsLock (fits key) hints) slots id m 0 (λ n. either (n == word) word n)
    (λ r new. (new.0 ≡ m.0) × WasHintedBy (fits m.0) hints r)
looks_again fits hints slots id word m key view s g wide me _ = let found = get_or s.words 0 0 in
    let same : get_or (set s.words 0 (either (found == word) word found)) 0 0 ≡ found
    = get_or-set_same s.words 0 (either (found == word) word found) 0 (omega arith) ∙ either_same found word in (
      m.0,
      keeps,
      tt,
      (length-set s.words 0 _ ∙ g.0, λ free. let t = g.1 (λ held. free (same ∙ held)) in (t.0, t.1, t.2, λ n e. t.3 n (sym same ∙ e))),
      (refl, subst (λ v. WasHintedBy (fits v) hints found) (sym view) (says (fits key) hints s g)),
    )
