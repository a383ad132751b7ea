-- `sts_ask`: the lengths of the record and of the answer first, then the question. Assumes nothing.
use Rattle.diagram.specs.Call.{columns}
use Rattle.editor.proofs.Course.{ask_other_length, ask_other_told, ask_lengths, ask_buffer, ask_done}
use Rattle.editor.proofs.runs.sts_ask.Goals as goal

pub returns-then-record-ne-RECORD : goal.returns-then-record-ne-RECORD
returns-then-record-ne-RECORD c =
    let table = columns c.args.letter.now c.args.low.now c.args.high.now in
    ask_buffer (ask_other_length c.args.file.now table c.args.«record».now c.args.node c.args.pattern c.args.answer.now c.if-record-ne-RECORD.true) c.from.ensures

pub returns-then-answer-ne-TOLD : goal.returns-then-answer-ne-TOLD
returns-then-answer-ne-TOLD c =
    let table = columns c.args.letter.now c.args.low.now c.args.high.now in
    ask_buffer (ask_other_told c.args.file.now table c.args.«record».now c.args.node c.args.pattern c.args.answer.now c.if-record-ne-RECORD.false c.if-answer-ne-TOLD.true) c.from-then-answer-ne-TOLD.ensures

pub returns : goal.returns
returns c =
    let table = columns c.args.letter.now c.args.low.now c.args.high.now in
    let read = c.read_record-r in
    let same = ask_lengths c.args.file.now table c.args.«record».now c.args.node c.args.pattern c.args.answer.now read.result c.if-record-ne-RECORD.false c.if-answer-ne-TOLD.false read.ensures in
    ask_done _ same c.ask_file-a.ensures c.give_told.ensures
