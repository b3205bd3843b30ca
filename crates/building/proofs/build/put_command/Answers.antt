-- `building::build::put_command` meets its contract: three runs, one behind the other. Assumes nothing.
use Rattle.building.proofs.Inner.Placing.{put-pieces}
use Rattle.building.proofs.build.put_command.Goals as goal

pub returns : goal.returns
returns c =
    put-pieces _ c.args.at c.args.h c.args.n c.args.address _ c.requires.0 c.requires.3 c.put_word.ensures c.put_address.ensures c.put_words.ensures
