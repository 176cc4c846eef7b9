use Rattle.arti_service.proofs.Staging.{staged_time}
use Rattle.arti_service.proofs.carrying.stage.Goals as goal

pub returns-in-Ok-stage_end-clause-moments : goal.returns-in-Ok-stage_end-clause-moments
returns-in-Ok-stage_end-clause-moments g c = λ gt.
    staged_time _ _ _ c.args.store.now c.stage_begin.new.self c.stage_piece.new.self _ _ c.stage_begin.ensures.rest c.stage_piece.ensures.rest c.requires.ready.still_open
    (c.stage_piece.ensures.holds gt) (c.stage_piece.ensures.shows gt) (c.stage_piece.ensures.told gt) (c.stage_piece.ensures.moments gt) (c.stage_end.ensures.reads gt)

pub returns-in-Err-clause-moments : goal.returns-in-Err-clause-moments
returns-in-Err-clause-moments g c = λ gt.
    staged_time _ _ _ c.args.store.now c.stage_begin.new.self c.stage_piece.new.self _ _ c.stage_begin.ensures.rest c.stage_piece.ensures.rest c.requires.ready.still_open
    (c.stage_piece.ensures.holds gt) (c.stage_piece.ensures.shows gt) (c.stage_piece.ensures.told gt) (c.stage_piece.ensures.moments gt) (c.stage_end.ensures.reads gt)
