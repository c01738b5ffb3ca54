-- `interval::placing::write_line` meets its contract: three parts that are lent one after the other, and come back as the groups, the ninth
-- pair and the CRC.
-- Assumes nothing.
use Rattle.interval.proofs.ThreeParts.{whole}
use Rattle.interval.proofs.placing.write_line.Goals as goal

pub returns : goal.returns
returns c = search whole
