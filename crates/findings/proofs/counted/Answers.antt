-- `findings::counted` meets its contract.
use Rattle.findings.proofs.counted.Goals as goal

pub returns-in-Error : goal.returns-in-Error
returns-in-Error c = rw c.in-Error.is

pub returns-in-Warning : goal.returns-in-Warning
returns-in-Warning c = rw c.in-Warning.is

pub returns-in-Info : goal.returns-in-Info
returns-in-Info c = rw c.in-Info.is
