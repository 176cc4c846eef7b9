use Rattle.std.proofs.Common.{rules, ◌≡◌, ◌+◌, ◌≤◌, length, take, drop, sym, ◌∙◌, arith}
use Rattle.std.proofs.lemmas.Bool.{false≢true}
use Rattle.std.proofs.lemmas.List.{length-take-le}
use Rattle.arti_rows.specs.Sizes.{contents_file}
use Rattle.arti_ground.specs.Moments.{reads_then}
use Rattle.arti_blobs.proofs.Blocks.{same_blocks, same_more, block_of}
use Rattle.arti_blobs.proofs.comparing.same_bytes.Goals as goal

pub returns-then-not-branch-clause-same : goal.returns-then-not-branch-clause-same
returns-then-not-branch-clause-same g c = λ tells.
    let bytes = (g.G.Ground.state c.args.outside.now).files contents_file in
    let n = c.min-n.result in
    let done = c.blocks-2.done in
    let size : length (take n c.blocks-2.one) ≡ n = length-take-le n c.blocks-2.one (omega arith) in
    let decides = block_of (g.G.Ground.state c.blocks-2.outside).files (g.G.Ground.state c.args.outside.now).files (length (take n c.blocks-2.one)) n (c.args.first + done) (c.args.second + done) c.in_ok-same_block.field-0
    (c.blocks-2.invariant.reads tells).disk.files size (c.in_ok-same_block.ensures.same tells) in
    let within : done + n ≤ c.args.len = omega arith in
    (λ t. absurd {A = take c.args.len (drop c.args.first bytes) ≡ take c.args.len (drop c.args.second bytes)} (false≢true t), λ same. sym c.if-not-branch.true ∙ decides.1 (same_blocks bytes c.args.first c.args.second done n c.args.len within same))

pub blocks-2-preserved : goal.blocks-2-preserved
blocks-2-preserved g c =
    let bytes = (g.G.Ground.state c.args.outside.now).files contents_file in
    let n = c.min-n.result in
    let done = c.blocks-2.done in
    let size : length (take n c.blocks-2.one) ≡ n = length-take-le n c.blocks-2.one (omega arith) in
    record {
      within = omega arith;
      reads = λ tells. reads_then (g.G.Ground.state c.args.outside.now) (g.G.Ground.state c.blocks-2.outside) (g.G.Ground.state c.same_block.new.outside) (c.blocks-2.invariant.reads tells) (c.same_block.ensures.reads tells);
      disk_faults = search rules;
      tell_faults = c.same_block.ensures.tell_faults ∙ c.blocks-2.invariant.tell_faults;
      same = λ tells.
          let decides = block_of (g.G.Ground.state c.blocks-2.outside).files (g.G.Ground.state c.args.outside.now).files (length (take n c.blocks-2.one)) n (c.args.first + done) (c.args.second + done) c.in_ok-same_block.field-0
          (c.blocks-2.invariant.reads tells).disk.files size (c.in_ok-same_block.ensures.same tells) in
          same_more bytes c.args.first c.args.second done n (c.blocks-2.invariant.same tells) (decides.0 c.if-not-branch.false);
    }
