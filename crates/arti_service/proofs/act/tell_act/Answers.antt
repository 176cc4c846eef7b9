use Rattle.std.proofs.Common.{◌++◌, ◌∙◌, sym, ap}
use Rattle.arti_blobs.specs.Contents.{content}
use Rattle.arti_model.specs.Stock.{unchanged}
use Rattle.arti_model.specs.Perform.{content_bytes, told}
use Rattle.arti_service.specs.declared.decision.Body.{Body}
use Rattle.arti_service.specs.Decisions.{body_in, reply_in}
use Rattle.arti_service.proofs.Preparing.{stays_fitting, told_alone, told_whole}
use Rattle.arti_service.proofs.act.tell_act.Goals as goal

pub returns-then-is_too_large-clause-may : goal.returns-then-is_too_large-clause-may
returns-then-is_too_large-clause-may c = λ v staged kept. c.refusal_act.ensures.may v staged

pub returns-then-alone-clause-done : goal.returns-then-alone-clause-done
returns-then-alone-clause-done c = λ bytes limits s whole.
    let reply = reply_in bytes c.args.reply in
    ap (unchanged s)
    (told_alone reply c.args.alone c.in_ok-head.head.items c.new.result.items c.if-alone.true (c.in_ok-head.ensures bytes whole) c.new.ensures.items
    ∙ ap (told c.args.alone) (stays_fitting reply c.is_too_large.result (c.is_too_large.ensures bytes) c.if-is_too_large.false))

pub returns-in-Json-clause-done : goal.returns-in-Json-clause-done
returns-in-Json-clause-done c = λ bytes limits s whole.
    let reply = reply_in bytes c.args.reply in
    ap (λ t. unchanged s (c.in_ok-head.head.items ++ t.items)) c.in-Json.text-is
    ∙ ap (unchanged s)
    (told_whole reply c.args.alone c.in_ok-head.head.items c.in-Json.text.items c.if-alone.false (c.in_ok-head.ensures bytes whole)
    (ap (λ (b : Body). content_bytes (body_in bytes c.args.reply.status b).content) (sym c.in-Json.is))
    ∙ ap (told c.args.alone) (stays_fitting reply c.is_too_large.result (c.is_too_large.ensures bytes) c.if-is_too_large.false))

pub returns-in_ok-buffer-in-Kept-clause-done : goal.returns-in_ok-buffer-in-Kept-clause-done
returns-in_ok-buffer-in-Kept-clause-done c = λ bytes limits s whole.
    let reply = reply_in bytes c.args.reply in
    ap (unchanged s)
    (told_whole reply c.args.alone c.in_ok-head.head.items (content bytes c.in-Kept.file) c.if-alone.false (c.in_ok-head.ensures bytes whole)
    (ap (λ (b : Body). content_bytes (body_in bytes c.args.reply.status b).content) (sym c.in-Kept.is))
    ∙ ap (told c.args.alone) (stays_fitting reply c.is_too_large.result (c.is_too_large.ensures bytes) c.if-is_too_large.false))
