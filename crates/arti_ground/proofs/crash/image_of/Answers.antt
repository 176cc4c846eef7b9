use Rattle.std.proofs.Common.{◌≡◌, ℕ, List, get_or, take, sym, ◌∙◌, ap, subst, rules}
use Rattle.std.proofs.lemmas.List.{get_or_default, take_all}
use Rattle.arti_ground.specs.declared.memory.Call.{Call}
use Rattle.arti_ground.specs.declared.memory.Call.TheVariants.{Look}
use Rattle.arti_ground.specs.State.{Bytes, State}
use Rattle.arti_ground.specs.Record.{as_files, IsLastSynced, SameSizes}
use Rattle.arti_ground.specs.Calls.{contents_of, events_of, shown}
use Rattle.arti_ground.proofs.Records.{files_next, image_next, lost_next}
use Rattle.arti_ground.proofs.crash.image_of.Goals as goal

pub loop-call-preserved : goal.loop-call-preserved
loop-call-preserved c =
    let calls = c.args.calls.now in
    let i = c.loop-call.call-index in
    let call = get_or calls i Look in
    let is : call ≡ get_or calls i call = get_or_default calls i Look call (search rules) in
    let start = contents_of c.args.start.now in
    let bytes = c.args.bytes.now in
    let files = as_files (contents_of c.loop-call.files.items) in
    let image = as_files (contents_of c.loop-call.image.items) in
    record {
      len_files = search rules;
      len_image = search rules;
      sizes = search rules;
      whole = search rules;
      lost = λ none. lost_next start bytes calls i call files image _ (search rules) is c.loop-call.invariant.files (c.loop-call.invariant.lost none) (c.in_ok-replay.ensures.lost none);
      files = files_next start bytes calls i call files _ (search rules) is c.loop-call.invariant.files c.in_ok-replay.ensures.files;
      image = image_next start bytes calls i call files image _ (search rules) is c.loop-call.invariant.files c.loop-call.invariant.image c.in_ok-replay.ensures.image;
    }

pub returns-clause-image : goal.returns-clause-image
returns-clause-image c =
    subst (λ (cs : List Call). (shown (contents_of c.args.start.now) c.args.bytes.now cs).may_leave (as_files (contents_of c.loop-call.image.items)))
    (take_all c.loop-call.call-index c.args.calls.now (search rules)) c.loop-call.invariant.image

pub returns-clause-lost : goal.returns-clause-lost
returns-clause-lost c = λ none.
    subst (λ (cs : List Call). IsLastSynced (contents_of c.args.start.now) (events_of c.args.bytes.now cs) (as_files (contents_of c.loop-call.image.items)))
    (take_all c.loop-call.call-index c.args.calls.now (search rules)) (c.loop-call.invariant.lost none)

pub returns-clause-whole : goal.returns-clause-whole
returns-clause-whole c = λ one f.
    ap (λ (l : List (List ℕ)). as_files l f) (c.loop-call.invariant.whole one) ∙ ap (λ (b : Bytes). b f) c.loop-call.invariant.files
    ∙ ap (λ (cs : List Call). (shown (contents_of c.args.start.now) c.args.bytes.now cs).files f) (take_all c.loop-call.call-index c.args.calls.now (search rules))

pub returns-clause-sizes : goal.returns-clause-sizes
returns-clause-sizes c = λ some.
    subst (λ (b : Bytes). SameSizes b (as_files (contents_of c.loop-call.image.items)))
    (c.loop-call.invariant.files ∙ ap (λ (cs : List Call). (shown (contents_of c.args.start.now) c.args.bytes.now cs).files) (take_all c.loop-call.call-index c.args.calls.now (search rules)))
    (c.loop-call.invariant.sizes some)
