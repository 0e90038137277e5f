-- Two lawful kinds are a lawful kind together.
use Rattle.std.proofs.Common.{◌≡◌, ℕ, Bool, true, false, List, Some, None, refl}
use Rattle.calloop_wake.specs.Cells.{fresh}
use Rattle.calloop_wake_laws.specs.Wakes.{Kind, WakeStep, start, after_all, IsSchedule, IsCovered}
use Rattle.calloop_wake_laws.specs.PingKind.{ping_kind}
use Rattle.calloop_wake_laws.specs.ChannelKind.{channel_kind, unused_channel}
use Rattle.calloop_wake_laws.specs.ExecutorKind.{executor_kind, unused_executor}
use Rattle.calloop_wake_laws.specs.Kinds.{First, Second, either_kind, every_kind, Born, APing, AChannel, AnExecutor, new_cell}
use Rattle.calloop_wake_laws.proofs.Lawful.{ping_lawful, fresh_is}
use Rattle.calloop_wake_laws.proofs.ChannelLawful.{channel_lawful, unused_is}
use Rattle.calloop_wake_laws.proofs.ExecutorLawful.{executor_lawful, unused-executor-is}
use Rattle.calloop_wake_laws.proofs.Schedules.{IsLawful, IsFresh, covered-schedule}

module _ (K L : Kind) (k_law : IsLawful K) (l_law : IsLawful L) where
  abbrev pub either_lit : (either_kind K L).Cell → Type 0
  either_lit (First c) = k_law.IsLit c
  either_lit (Second d) = l_law.IsLit d

  own_key : (s : (either_kind K L).Own) (c : (either_kind K L).Cell) → (either_kind K L).key ((either_kind K L).after s c) ≡ (either_kind K L).key c
  own_key (First s) (First c) = k_law.own_key s c
  own_key (First s) (Second d) = refl
  own_key (Second s) (First c) = refl
  own_key (Second s) (Second d) = l_law.own_key s d

  own_lit : (s : (either_kind K L).Own) (c : (either_kind K L).Cell) → (either_kind K L).Needs s c → either_lit c → either_lit ((either_kind K L).after s c)
  own_lit (First s) (First c) need l = k_law.own_lit s c need l
  own_lit (First s) (Second d) need l = l
  own_lit (Second s) (First c) need l = l
  own_lit (Second s) (Second d) need l = l_law.own_lit s d need l

  keyed_key : (k : ℕ) (c : (either_kind K L).Cell) → (either_kind K L).key ((either_kind K L).keyed k c) ≡ Some k
  keyed_key k (First c) = k_law.keyed_key k c
  keyed_key k (Second d) = l_law.keyed_key k d

  keyed_pinged : (k : ℕ) (c : (either_kind K L).Cell) → (either_kind K L).pinged ((either_kind K L).keyed k c) ≡ (either_kind K L).pinged c
  keyed_pinged k (First c) = k_law.keyed_pinged k c
  keyed_pinged k (Second d) = l_law.keyed_pinged k d

  keyed_lit : (k : ℕ) (c : (either_kind K L).Cell) → either_lit c → either_lit ((either_kind K L).keyed k c)
  keyed_lit k (First c) l = k_law.keyed_lit k c l
  keyed_lit k (Second d) l = l_law.keyed_lit k d l

  unkeyed_key : (b : Bool) (c : (either_kind K L).Cell) → (either_kind K L).key ((either_kind K L).unkeyed b c) ≡ None
  unkeyed_key b (First c) = k_law.unkeyed_key b c
  unkeyed_key b (Second d) = l_law.unkeyed_key b d

  unkeyed_lit : (b : Bool) (c : (either_kind K L).Cell) → either_lit c → either_lit ((either_kind K L).unkeyed b c)
  unkeyed_lit b (First c) l = k_law.unkeyed_lit b c l
  unkeyed_lit b (Second d) l = l_law.unkeyed_lit b d l

  opens_own : (k : ℕ) (c : (either_kind K L).Cell) → (either_kind K L).opens k c ≡ true → (either_kind K L).key c ≡ Some k
  opens_own k (First c) h = k_law.opens_own k c h
  opens_own k (Second d) h = l_law.opens_own k d h

  opened_key : (c : (either_kind K L).Cell) → (either_kind K L).key ((either_kind K L).opened c) ≡ (either_kind K L).key c
  opened_key (First c) = k_law.opened_key c
  opened_key (Second d) = l_law.opened_key d

  opened_pinged : (c : (either_kind K L).Cell) → (either_kind K L).pinged ((either_kind K L).opened c) ≡ false
  opened_pinged (First c) = k_law.opened_pinged c
  opened_pinged (Second d) = l_law.opened_pinged d

  opened_lit : (k : ℕ) (c : (either_kind K L).Cell) → (either_kind K L).opens k c ≡ true → either_lit c → either_lit ((either_kind K L).opened c)
  opened_lit k (First c) o l = k_law.opened_lit k c o l
  opened_lit k (Second d) o l = l_law.opened_lit k d o l

  standing : (c : (either_kind K L).Cell) → either_lit c → (either_kind K L).IsStanding c
  standing (First c) l = k_law.standing c l
  standing (Second d) l = l_law.standing d l

  pub either_lawful : IsLawful (either_kind K L)
  either_lawful = record {
    IsLit = either_lit;
    own_key = own_key;
    own_lit = own_lit;
    keyed_key = keyed_key;
    keyed_pinged = keyed_pinged;
    keyed_lit = keyed_lit;
    unkeyed_key = unkeyed_key;
    unkeyed_lit = unkeyed_lit;
    opens_own = opens_own;
    opened_key = opened_key;
    opened_pinged = opened_pinged;
    opened_lit = opened_lit;
    standing = standing;
  }

  pub first_lit : (c : K.Cell) → either_lawful.IsLit (First c) → k_law.IsLit c
  unfolding either_lawful
  first_lit c l = l

  pub second_lit : (d : L.Cell) → either_lawful.IsLit (Second d) → l_law.IsLit d
  unfolding either_lawful
  second_lit d l = l

  pub first_is : (c : K.Cell) → IsFresh K k_law c → IsFresh (either_kind K L) either_lawful (First c)
  unfolding either_lawful
  first_is c f = record { lit = f.lit; quiet = f.quiet; unkeyed = f.unkeyed }

  pub second_is : (d : L.Cell) → IsFresh L l_law d → IsFresh (either_kind K L) either_lawful (Second d)
  unfolding either_lawful
  second_is d f = record { lit = f.lit; quiet = f.quiet; unkeyed = f.unkeyed }

-- channels and executors
abbrev pub queues_lawful : IsLawful (either_kind channel_kind executor_kind)
queues_lawful = either_lawful channel_kind executor_kind channel_lawful executor_lawful

abbrev pub every_lawful : IsLawful every_kind
every_lawful = either_lawful ping_kind (either_kind channel_kind executor_kind) ping_lawful queues_lawful

pub born_is : (born : Born) → IsFresh every_kind every_lawful (new_cell born)
born_is APing = first_is ping_kind (either_kind channel_kind executor_kind) ping_lawful queues_lawful fresh fresh_is
born_is (AChannel bound) =
    second_is ping_kind (either_kind channel_kind executor_kind) ping_lawful queues_lawful (First (unused_channel bound))
    (first_is channel_kind executor_kind channel_lawful executor_lawful (unused_channel bound) (unused_is bound))
born_is AnExecutor =
    second_is ping_kind (either_kind channel_kind executor_kind) ping_lawful queues_lawful (Second unused_executor)
    (second_is channel_kind executor_kind channel_lawful executor_lawful unused_executor unused-executor-is)

pub covered-cells : (born : ℕ → Born) (ss : List (WakeStep every_kind.Own)) → IsSchedule every_kind (start (λ n. new_cell (born n))) ss
    → IsCovered every_kind (after_all every_kind (start (λ n. new_cell (born n))) ss)
covered-cells born ss met = covered-schedule every_kind every_lawful (λ n. new_cell (born n)) ss (λ n. born_is (born n)) met
