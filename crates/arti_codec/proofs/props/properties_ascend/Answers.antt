use Rattle.arti_codec.proofs.props.properties_ascend.Goals as goal

pub returns : goal.returns
returns c = c.ascends.ensures
