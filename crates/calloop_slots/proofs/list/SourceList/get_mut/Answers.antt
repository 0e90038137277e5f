use borrow.Follows.Closed.{read_of}
use Rattle.std.proofs.Common.{◌≡◌, ◌<◌, ◌↔◌, length, get_or, true, is_some, sym, ◌∙◌, ap, subst, refl, Bool, List, false, IfOk, IsErr, None}
use Rattle.std.proofs.Math.ListN.{set}
use Rattle.std.proofs.lemmas.List.{set-get_or}
use Rattle.std.specs.Borrow.{name_if_ok}
use Rattle.calloop_slots.specs.Slots.{content_at, source_of, with_content, is_empty}
use Rattle.calloop_slots.specs.declared.list.Slot.{Slot}
use Rattle.calloop_slots.specs.declared.token.RegistrationToken.{RegistrationToken}
use Rattle.calloop_slots.specs.declared.list.Content.{Content}
use Rattle.calloop_slots.specs.declared.list.Content.TheVariants.{Source}
use Rattle.calloop_slots.proofs.Indexed.{changed-set}
use Rattle.calloop_slots.proofs.Told.{told-kept}
use Rattle.calloop_slots.proofs.Named.{named_within, named_at, source_filled}
use Rattle.calloop_slots.proofs.list.SourceList.get_mut.Goals as goal

filled : {S : Type 0} (xs ys : List (Slot S)) (token : RegistrationToken) (b : Bool) → ys ≡ xs → b ≡ is_some (source_of (content_at ys token)) → b ≡ true → is_empty (content_at xs token) ≡ false
filled xs ys token b same is there = source_filled (content_at xs token) (sym (ap (λ l. is_some (source_of (content_at l token))) same) ∙ sym is ∙ there)

pub invariant_of-self-lent : goal.invariant_of-self-lent
invariant_of-self-lent g c =
    let xs = c.self.inside.slots.items in
    let x = c.index_mut-slot.result.now in
    let token = c.args.token in
    let full : is_empty (content_at xs token) ≡ false = filled xs c.deref.result.now token c.has_source.result c.deref.ensures.value c.has_source.ensures c.if-not-has_source.false in
    let within : token.slot < length xs = named_within xs token full in
    let at : x ≡ get_or xs token.slot x = subst (λ i. x ≡ get_or xs i x) c.slot.ensures c.index_mut-slot.ensures.value in
    λ _. (
      λ w. rw (ap (λ i. set xs i (with_content (Source w) x)) c.slot.ensures ∙ changed-set (with_content (Source w)) xs token.slot x at within) (told-kept xs c.self.inside.vacancies (Source w) token c.self.invariant full refl),
      rw (ap (λ i. set xs i x) c.slot.ensures ∙ ap (λ y. set xs token.slot y) at ∙ set-get_or xs token.slot x) c.self.invariant,
    )

pub returns : goal.returns
returns g c =
    let xs = c.self.inside.slots.items in
    let x = c.index_mut-slot.result.now in
    let token = c.args.token in
    let there : is_some (source_of (content_at xs token)) ≡ true = sym (ap (λ ys. is_some (source_of (content_at ys token))) c.deref.ensures.value) ∙ sym c.has_source.ensures ∙ c.if-not-has_source.false in
    let filled = source_filled (content_at xs token) there in
    let within : token.slot < length xs = named_within xs token filled in
    let at : x ≡ get_or xs token.slot x = subst (λ i. x ≡ get_or xs i x) c.slot.ensures c.index_mut-slot.ensures.value in
    let here : content_at xs token ≡ x.content = named_at xs token x filled at in
    rw (← c.self.view_is) (
      λ t. read_of (name_if_ok (λ y. y.ghost_name) c.source_mut.result) (λ (w : g.row.S.Denot). (ap (λ i. set xs i (with_content (Source w) x)) c.slot.ensures ∙ changed-set (with_content (Source w)) xs token.slot x at within) t) ((ap (λ i. set xs i x) c.slot.ensures ∙ ap (λ y. set xs token.slot y) at ∙ set-get_or xs token.slot x) t),
      record {
        writes_back = tt;
        ok = subst (λ (k : Content g.row.S.Denot). IfOk c.source_mut.result (λ s. k ≡ Source s.now)) (sym here) c.source_mut.ensures.ok;
        refuses = subst (λ (k : Content g.row.S.Denot). IsErr c.source_mut.result ↔ (source_of k ≡ None)) (sym here) c.source_mut.ensures.refuses;
        err = c.source_mut.ensures.err;
      },
    )
