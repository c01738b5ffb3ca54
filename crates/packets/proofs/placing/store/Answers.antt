-- `packets::placing::store` meets its contract: header, data words and checksum are the packet, and the run is as long as before.
-- Assumes nothing.
use Rattle.packets.proofs.Pieces.{finished, as_long}
use Rattle.packets.proofs.placing.store.Goals as goal

pub shape_of-run : goal.shape_of-run
shape_of-run c = search as_long

pub returns : goal.returns
returns c = search finished
