use Rattle.std.proofs.Common.{◌+◌, ◌≤◌, length, Some, sym, subst}
use Rattle.std.specs.Prelude.{Contains}
use Rattle.std.proofs.lemmas.List.Elements.{Contains-get_or}
use Rattle.arti_rows.specs.Sizes.{contents_file}
use Rattle.arti_ground.specs.State.{Bytes}
use Rattle.arti_blobs.specs.Chains.{no_file}
use Rattle.arti_blobs.specs.Contents.{IsSame}
use Rattle.arti_blobs.proofs.Searching.{IsOn, NoneFrom, none_kept}
use Rattle.arti_blobs.proofs.comparing.find_same.Goals as goal

pub is_same-requires-clause-first_fits : goal.is_same-requires-clause-first_fits
is_same-requires-clause-first_fits g c =
    let index = c.args.index.now in
    let on : IsOn index c.args.wanted.now.digests.sha256 (Some c.in-Some.at) = subst (IsOn index c.args.wanted.now.digests.sha256) c.in-Some.is c.chain.invariant.on in
    c.requires.kept c.file-file.result (subst (Contains index) (sym c.file-file.ensures) (Contains-get_or index c.in-Some.at no_file on.0))

pub is_same-requires-clause-first : goal.is_same-requires-clause-first
is_same-requires-clause-first g c = λ tells.
    let index = c.args.index.now in
    let file = c.file-file.result in
    let on : IsOn index c.args.wanted.now.digests.sha256 (Some c.in-Some.at) = subst (IsOn index c.args.wanted.now.digests.sha256) c.in-Some.is c.chain.invariant.on in
    subst (λ (b : Bytes). file.place + file.len ≤ length (b contents_file)) (sym (c.chain.invariant.reads tells).disk.files)
    (c.requires.holds tells file (subst (Contains index) (sym c.file-file.ensures) (Contains-get_or index c.in-Some.at no_file on.0)))

pub returns-clause-none : goal.returns-clause-none
returns-clause-none g c = λ tells none file is same.
    let index = c.args.index.now in
    let P = IsSame ((g.G.Ground.state c.args.outside.now).files contents_file) c.args.wanted.now in
    none_kept index P (subst (NoneFrom index P) c.in_default.is (c.chain.invariant.none tells)) file is same
