use Rattle.std.proofs.Common.{◌+◌, ◌≤◌, ◌<◌, length, Some, sym, subst, arith}
use Rattle.std.specs.Prelude.{Contains}
use Rattle.std.proofs.lemmas.List.Elements.{Contains-get_or}
use Rattle.arti_rows.specs.Sizes.{contents_file}
use Rattle.arti_ground.specs.State.{Bytes}
use Rattle.arti_blobs.specs.Chains.{no_file}
use Rattle.arti_blobs.proofs.Earlier.{IsBelow}
use Rattle.arti_blobs.proofs.comparing.has_earlier.Goals as goal

pub is_same-requires-clause-first_fits : goal.is_same-requires-clause-first_fits
is_same-requires-clause-first_fits g c =
    let index = c.args.index.now in
    let on : IsBelow index c.file-wanted.result.digests.sha256 c.args.at (Some c.in-Some.earlier) = subst (IsBelow index c.file-wanted.result.digests.sha256 c.args.at) c.in-Some.is c.chain.invariant.on in
    let lt : c.in-Some.earlier < length index = omega (arith, on.0, c.requires.at) in
    c.requires.kept c.file-file.result (subst (Contains index) (sym c.file-file.ensures) (Contains-get_or index c.in-Some.earlier no_file lt))

pub is_same-requires-clause-second_fits : goal.is_same-requires-clause-second_fits
is_same-requires-clause-second_fits g c =
    let index = c.args.index.now in
    c.requires.kept c.file-wanted.result (subst (Contains index) (sym c.file-wanted.ensures) (Contains-get_or index c.args.at no_file c.requires.at))

pub is_same-requires-clause-first : goal.is_same-requires-clause-first
is_same-requires-clause-first g c = λ tells.
    let index = c.args.index.now in
    let file = c.file-file.result in
    let on : IsBelow index c.file-wanted.result.digests.sha256 c.args.at (Some c.in-Some.earlier) = subst (IsBelow index c.file-wanted.result.digests.sha256 c.args.at) c.in-Some.is c.chain.invariant.on in
    let lt : c.in-Some.earlier < length index = omega (arith, on.0, c.requires.at) in
    subst (λ (b : Bytes). file.place + file.len ≤ length (b contents_file)) (sym (c.chain.invariant.reads tells).disk.files)
    (c.requires.holds tells file (subst (Contains index) (sym c.file-file.ensures) (Contains-get_or index c.in-Some.earlier no_file lt)))

pub is_same-requires-clause-second : goal.is_same-requires-clause-second
is_same-requires-clause-second g c = λ tells.
    let index = c.args.index.now in
    let file = c.file-wanted.result in
    subst (λ (b : Bytes). file.place + file.len ≤ length (b contents_file)) (sym (c.chain.invariant.reads tells).disk.files)
    (c.requires.holds tells file (subst (Contains index) (sym c.file-wanted.ensures) (Contains-get_or index c.args.at no_file c.requires.at)))
