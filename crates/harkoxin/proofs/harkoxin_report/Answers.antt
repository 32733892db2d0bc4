-- `harkoxin::harkoxin_report` meets its contract.
use Rattle.std.proofs.Common.{length, refl, sym, ap, ◌∙◌}
use Rattle.std.specs.Prelude.{Ok}
use Rattle.validate.specs.Entry.{answer_of}
use Rattle.validate.proofs.Through.{refused-so, accepted-so}
use Rattle.harkoxin.proofs.Reporting.{turned-words, turned-text, turned-ends, held-requires, held-words, held-text, held-ends}
use Rattle.harkoxin.proofs.harkoxin_report.Goals as goal

pub passed-requires : goal.passed-requires
passed-requires c =
    let a = c.args in
    let e = c.in-Ok.ensures in
    (e.index, accepted-so a.table.now a.source.now a.tape.now a.seen.now a.opens.now a.list.now _ _ refl refl e.number)

pub write_held-requires : goal.write_held-requires
write_held-requires c =
    let a = c.args in
    let p = c.passed in
    let e = c.in-Ok.ensures in
    held-requires a.table.now a.source.now a.tape.now a.seen.now a.opens.now a.list.now (accepted-so a.table.now a.source.now a.tape.now a.seen.now a.opens.now a.list.now _ _ refl refl e.number) (answer_of (Ok p.result)) p.ensures.answer p.new.list p.ensures.list _ _ e.index p.auto.list

pub returns-in-Err : goal.returns-in-Err
returns-in-Err c =
    let a = c.args in
    let e = c.in-Err.ensures.number in
    let t = refused-so a.table.now a.source.now a.tape.now a.seen.now a.opens.now a.list.now _ _ refl refl _ e in
    record {
      answer = turned-words a.table.now a.source.now a.tape.now a.seen.now a.opens.now a.list.now _ _ refl refl _ e a.out.now _ (length a.text.now) c.write_turned_back.ensures;
      list = t.1.0;
      seen = t.1.1.0;
      opens = t.1.1.1;
      text = turned-text a.table.now a.source.now a.tape.now a.seen.now a.opens.now a.list.now _ _ refl refl _ e a.text.now;
      ends = turned-ends a.table.now a.source.now a.tape.now a.seen.now a.opens.now a.list.now _ _ refl refl _ e (length a.text.now) a.ends.now;
    }

pub returns-in-Ok : goal.returns-in-Ok
returns-in-Ok c =
    let a = c.args in
    let p = c.passed in
    let w = c.write_held.ensures in
    let q = accepted-so a.table.now a.source.now a.tape.now a.seen.now a.opens.now a.list.now _ _ refl refl c.in-Ok.ensures.number in
    record {
      answer = held-words a.table.now a.source.now a.tape.now a.seen.now a.opens.now a.list.now q (answer_of (Ok p.result)) p.ensures.answer p.new.list p.ensures.list a.out.now _ (length a.text.now) w.answer;
      list = w.list ∙ p.ensures.list;
      seen = p.ensures.seen;
      opens = p.ensures.opens;
      text = held-text a.table.now a.source.now a.tape.now a.seen.now a.opens.now a.list.now q (answer_of (Ok p.result)) p.ensures.answer p.new.list p.ensures.list a.text.now _ w.text;
      ends = held-ends a.table.now a.source.now a.tape.now a.seen.now a.opens.now a.list.now q (answer_of (Ok p.result)) p.ensures.answer p.new.list p.ensures.list (length a.text.now) a.ends.now _ w.ends;
    }
