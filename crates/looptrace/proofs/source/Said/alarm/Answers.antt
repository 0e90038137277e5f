use Rattle.std.proofs.Common.{◌≡◌, ◌++◌, rules, refl, ap, ◌∙◌, List, ℕ, Option, Some, None, Bool, true, false, if◌then◌else◌, inl, inr}
use Rattle.std.specs.Option.{option_map}
use Rattle.looptrace.specs.Says.{Tells}
use Rattle.looptrace.specs.Texts.{alarm_text}
use Rattle.looptrace.proofs.source.Said.alarm.Goals as goal

-- the text is said behind what was said before, if that is known
tells : (text before after : List ℕ) (lost : Bool) (v : Option (List ℕ)) → (if lost then None else Some before) ≡ v
    → after ≡ before ++ text → Tells text v (if lost then None else Some after)
tells text before after true v seen is = inl refl
tells text before after false v seen is = inr (ap Some is ∙ ap (option_map (λ said. said ++ text)) seen)

pub returns-else-is_err : goal.returns-else-is_err
returns-else-is_err c =
    tells (alarm_text c.args.name.now c.args.deadline.nanos) c.self.inside.text.items c.append_alarm.new.out.items c.self.inside.lost
    c.args.self.now c.self.view_is (search rules)
