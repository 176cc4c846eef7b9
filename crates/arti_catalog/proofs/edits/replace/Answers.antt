use Rattle.std.proofs.Common.{refl, rules}
use Rattle.arti_catalog.specs.Held.{IsSet}
use Rattle.arti_catalog.proofs.Setting.{replace_done}
use Rattle.arti_catalog.proofs.edits.replace.Goals as goal

pub returns-clause-fits : goal.returns-clause-fits
returns-clause-fits c =
    let tree = c.args.parts.now.tree in
    let rows = c.args.parts.now.rows in
    let new = c.args.new in
    let set : IsSet rows c.put.new.self c.args.id new = search rules in
    (replace_done tree rows c.put.new.self new.key c.requires.fits c.args.id c.requires.there new set c.args.moment c.args.user.now refl c.requires.file c.requires.no_folder c.folders_stand.ensures).0

pub returns-clause-done : goal.returns-clause-done
returns-clause-done c =
    let tree = c.args.parts.now.tree in
    let rows = c.args.parts.now.rows in
    let new = c.args.new in
    let set : IsSet rows c.put.new.self c.args.id new = search rules in
    (replace_done tree rows c.put.new.self new.key c.requires.fits c.args.id c.requires.there new set c.args.moment c.args.user.now refl c.requires.file c.requires.no_folder c.folders_stand.ensures).1
