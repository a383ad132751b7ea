-- `task_on`: the length of the record first, then the task on the file. Assumes nothing.
use Rattle.diagram.specs.Call.{columns}
use Rattle.editor.proofs.Course.{other_length, fifty, task_buffer, task_done}
use Rattle.editor.proofs.runs.task_on.Goals as goal

pub returns-then-record-ne-RECORD : goal.returns-then-record-ne-RECORD
returns-then-record-ne-RECORD c =
    let table = columns c.args.letter.now c.args.low.now c.args.high.now in
    let working = columns c.args.work_letter.now c.args.work_low.now c.args.work_high.now in
    task_buffer (other_length c.args.file.now c.args.task table c.args.«record».now working c.if-record-ne-RECORD.true) c.from.ensures

pub returns : goal.returns
returns c =
    let table = columns c.args.letter.now c.args.low.now c.args.high.now in
    let working = columns c.args.work_letter.now c.args.work_low.now c.args.work_high.now in
    let read = c.read_record-r in
    let same = fifty c.args.file.now c.args.task table c.args.«record».now working read.result c.if-record-ne-RECORD.false read.ensures in
    let done = c.on_file-went in
    let table' = columns done.new.letter done.new.low done.new.high in
    let working' = columns done.new.wletter done.new.wlow done.new.whigh in
    task_done {table = table} {table' = table'} {working = working} {working' = working'} _ same done.ensures c.give_run.ensures
