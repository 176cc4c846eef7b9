use Rattle.std.proofs.Common.{◌≡◌, true, false, sym, ◌∙◌, rules}
use Rattle.arti_tree.proofs.Beneath.{may_go_is}
use Rattle.arti_tree.proofs.tree.Tree.remove.Goals as goal

pub returns-then-not-is_childless-clause-value : goal.returns-then-not-is_childless-clause-value
returns-then-not-is_childless-clause-value c =
    let no : c.is_childless.result ≡ false = search rules in
    sym no ∙ c.is_childless.ensures ∙ may_go_is c.args.self.now c.args.id c.rules.ensures

pub returns-clause-value : goal.returns-clause-value
returns-clause-value c =
    let yes : c.is_childless.result ≡ true = search rules in
    sym yes ∙ c.is_childless.ensures ∙ may_go_is c.args.self.now c.args.id c.rules.ensures
