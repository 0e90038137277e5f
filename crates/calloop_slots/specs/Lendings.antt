-- The state of a source list at the end of a `&mut` borrow of one of its sources.
use Rattle.std.specs.Prelude.{List, Result}
use Rattle.std.specs.Borrow.{LendsIfOk, MutBor, Fml, RattleType}
use Rattle.calloop_slots.specs.declared.error.Error.{Error}
use Rattle.calloop_slots.specs.declared.token.RegistrationToken.{RegistrationToken}
use Rattle.calloop_slots.specs.declared.list.Content.{Content}
use Rattle.calloop_slots.specs.declared.list.Content.TheVariants.{Source}
use Rattle.calloop_slots.specs.declared.list.Slot.{Slot}
use Rattle.calloop_slots.specs.contracts.list.Content as content
use Rattle.calloop_slots.specs.contracts.list.SourceList as list
use Rattle.calloop_slots.specs.Slots.{with_change, with_content}

module _ (S : RattleType) where
  -- once the borrow r ends, the content is the last source written through r; after a failure it is unchanged
  abbrev pub LendsSource : MutBor (Content S.Denot) → Result (MutBor S.Denot) Error → Fml
  LendsSource c r = LendsIfOk (content.the_row S) S c r (λ w. Source w) c.now

  -- the same of the slot that the token names; calloop lends the whole entry
  abbrev pub LendsNamed : MutBor (List (Slot S.Denot)) → RegistrationToken → Result (MutBor S.Denot) Error → Fml
  LendsNamed l t r = LendsIfOk (list.the_row S) S l r (λ w. with_change (with_content (Source w)) l.now t.slot) l.now
