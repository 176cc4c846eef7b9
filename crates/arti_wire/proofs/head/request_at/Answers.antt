use Rattle.std.proofs.Common.{◌≡◌, ◌∙◌, sym, subst}
use Rattle.std.specs.Prelude.{IsUtf8}
use Rattle.arti_wire.proofs.HeadLemmas.{names_are_texts, token_is_text}
use Rattle.arti_wire.proofs.head.request_at.Goals as goal

pub fields_at-requires-clause-names : goal.fields_at-requires-clause-names
fields_at-requires-clause-names c =
    names_are_texts c.args.bytes.now c.args.headers.now c.args.spans.now c.requires.head.0 c.requires.head.1

pub text_at-requires : goal.text_at-requires
text_at-requires c =
    let h = c.requires.head.0 in
    let at = c.requires.head.1 in
    subst IsUtf8 (sym at.method ∙ sym c.of.ensures) (token_is_text h.method at.reads.0.method)
