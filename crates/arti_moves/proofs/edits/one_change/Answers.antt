use Rattle.std.proofs.Common.{◌≡◌, ◌≤◌, ℕ, List, length, sym, ap, subst}
use Rattle.arti_rows.specs.declared.edits.Change.{Change}
use Rattle.arti_codec.specs.ChangeBytes.{text, HasBytes}
use Rattle.arti_moves.proofs.Kept.{one_has}
use Rattle.arti_moves.proofs.edits.one_change.Goals as goal

pub returns-clause-bytes : goal.returns-clause-bytes
returns-clause-bytes c = λ keeps short.
    let is = c.in_ok-change.ensures in
    let user_is : c.in_ok-change.change.user ≡ c.args.user.now = ap (λ (ch : Change). ch.user) is in
    let user_has : text.keeps c.args.user.now =
    subst text.keeps user_is (c.text_has_bytes.ensures (subst (λ (t : List ℕ). length t ≤ 4096) (sym user_is) short)) in
    subst HasBytes (sym is) (one_has c.args.moment c.args.user.now c.args.edit c.moment_has_bytes.ensures user_has keeps)
