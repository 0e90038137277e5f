-- Steps one after another.
use Rattle.std.proofs.Common.{◌≡◌, List, [], ◌∷◌, ◌++◌, ap, subst, ◌∙◌}
use Rattle.calloop_poll.specs.sys.Pollers.{Outside}
use Rattle.calloop_poll.specs.sys.Polls.{PollView, PollStep, poll_after, polls_after, Allowed, AllAllowed, AllStepped}

module _ {P : Type 0} (O : Outside P) where
  pub stepped_first : (v u w : PollView P) (s : PollStep P) (ss : List (PollStep P)) → Allowed O v s → u ≡ poll_after v s → AllStepped O u ss w → AllStepped O v (s ∷ ss) w
  stepped_first v u w s ss ok is h = ((ok, subst (λ (x : PollView P). AllAllowed O x ss) is h.0), h.1 ∙ ap (λ (x : PollView P). polls_after x ss) is)

  pub stepped-append : (v u w : PollView P) (ss ts : List (PollStep P)) → AllStepped O v ss u → AllStepped O u ts w → AllStepped O v (ss ++ ts) w
  stepped-append v u w [] ts h k = (subst (λ (x : PollView P). AllAllowed O x ts) h.1 k.0, k.1 ∙ ap (λ (x : PollView P). polls_after x ts) h.1)
  stepped-append v u w (s ∷ ss) ts h k =
      let rest = stepped-append (poll_after v s) u w ss ts (h.0.1, h.1) k in
      ((h.0.0, rest.0), rest.1)
