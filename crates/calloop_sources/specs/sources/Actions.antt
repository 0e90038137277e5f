-- What becomes of a source made of sources, after the turns of two of them. As calloop's `|` of post actions.
use Rattle.calloop_sources.specs.declared.sources.source.PostAction.{PostAction}
use Rattle.calloop_sources.specs.declared.sources.source.PostAction.TheVariants.{Continue, Reregister, Disable, Remove}

-- the action that both ask for, else the source is registered anew
abbrev pub either : PostAction → PostAction → PostAction
either Continue Continue = Continue
either Disable Disable = Disable
either Remove Remove = Remove
either a b = Reregister
