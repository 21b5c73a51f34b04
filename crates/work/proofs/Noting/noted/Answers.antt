-- `work::Noting::noted` meets its contract. Assumes nothing.
use Rattle.std.proofs.Common.{le-ltb, lt-ltb}
use Rattle.seats.specs.Outcomes.{read_found, read_missing, write_found, write_missing}
use Rattle.work.specs.Entries.{noted}
use Rattle.work.proofs.Noting.noted.Goals as goal

pub returns-in-Some : goal.returns-in-Some
unfolding noted
returns-in-Some c =
    let w = write_found c.row_of-row.ensures _ c.requires.writes_is c.requires.few_writes c.write_of.ensures c.in-Some.is in
    simp (w.0, lt-ltb _ _ w.1, c.of.ensures, c.row_of-row.ensures)

pub returns-in-Some-read_of : goal.returns-in-Some-read_of
unfolding noted
returns-in-Some-read_of c =
    let w = write_missing c.row_of-row.ensures _ c.requires.writes_is c.requires.few_writes c.write_of.ensures c.in_default.is in
    let r = read_found c.row_of-row.ensures _ c.requires.reads_is c.requires.few_reads c.read_of.ensures c.in-Some-read_of.is in
    simp (le-ltb _ _ w, r.0, lt-ltb _ _ r.1, c.of-in-Some-read_of.ensures, c.row_of-row.ensures)

pub returns : goal.returns
unfolding noted
returns c =
    let w = write_missing c.row_of-row.ensures _ c.requires.writes_is c.requires.few_writes c.write_of.ensures c.in_default.is in
    let r = read_missing c.row_of-row.ensures _ c.requires.reads_is c.requires.few_reads c.read_of.ensures c.in_default-read_of.is in
    simp (le-ltb _ _ w, le-ltb _ _ r)
