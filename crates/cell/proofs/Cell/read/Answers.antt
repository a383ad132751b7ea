-- `Cell::read` meets its contract: the tests of the first bytes, of the header and of the length are the definition's, and the rest is `read_chains`.
-- Assumes nothing.
use mathlib.Core.Path.{◌≡◌, refl, sym, ap, ◌∙◌}
use mathlib.Core.Bool.{true}
use lib.ListN.{length}
use lib.Dec.{leb}
use borrow.Author.Tests.{not-true, not-false, lt-leb, le-leb, eq-eqb, ne_eqb}
use Rattle.format.specs.declared.Header.{Header}
use Rattle.format.specs.File.{record_size, file_header, header_legal, stated_length, read_chains}
use Rattle.cell.specs.Value.{reading}
use Rattle.cell.proofs.Read.{read_by, header_counted}
use Rattle.cell.proofs.Cell.read.Goals as goal

pub returns-then-file-lt-RECORD_SIZE : goal.returns-then-file-lt-RECORD_SIZE
unfolding reading
returns-then-file-lt-RECORD_SIZE c = sym (ap reading (read_by _ (lt-leb _ _ c.if-file-lt-RECORD_SIZE.true) refl refl))

pub returns-then-not-header_legal : goal.returns-then-not-header_legal
unfolding reading
returns-then-not-header_legal c =
    let started : leb record_size (length c.args.file.now) ≡ true = (le-leb record_size _ c.if-file-lt-RECORD_SIZE.false) in
    sym (ap reading (read_by _ (started) (sym c.header_legal.ensures ∙ not-true _ c.if-not-header_legal.true-raw) refl))

pub stated_length-requires : goal.stated_length-requires
stated_length-requires c =
    let legal : header_legal c.args.file.now ≡ true = (sym c.header_legal.ensures ∙ not-false _ c.if-not-header_legal.false-raw) in
    header_counted _ _ c.file_header-header.ensures (legal)

pub returns-then-file-stated_length : goal.returns-then-file-stated_length
unfolding reading
returns-then-file-stated_length c =
    let started : leb record_size (length c.args.file.now) ≡ true = (le-leb record_size _ c.if-file-lt-RECORD_SIZE.false) in
    let legal : header_legal c.args.file.now ≡ true = (sym c.header_legal.ensures ∙ not-false _ c.if-not-header_legal.false-raw) in
    let stated : c.stated_length.result ≡ stated_length (file_header c.args.file.now) = (c.stated_length.ensures ∙ ap stated_length c.file_header-header.ensures) in
    sym (ap reading (read_by _ (started) (legal) (ne_eqb _ _ (λ e. c.if-file-stated_length.true (e ∙ sym (stated))))))

pub read_chains-requires : goal.read_chains-requires
read_chains-requires c =
    let legal : header_legal c.args.file.now ≡ true = (sym c.header_legal.ensures ∙ not-false _ c.if-not-header_legal.false-raw) in
    let e = c.file_header-header.ensures in
    record { header = e; counted = header_counted _ _ e (legal); long = c.if-file-stated_length.false ∙ c.stated_length.ensures }

pub returns : goal.returns
returns c =
    let started : leb record_size (length c.args.file.now) ≡ true = (le-leb record_size _ c.if-file-lt-RECORD_SIZE.false) in
    let legal : header_legal c.args.file.now ≡ true = (sym c.header_legal.ensures ∙ not-false _ c.if-not-header_legal.false-raw) in
    let stated : c.stated_length.result ≡ stated_length (file_header c.args.file.now) = (c.stated_length.ensures ∙ ap stated_length c.file_header-header.ensures) in
    c.read_chains.ensures
    ∙ ap (λ (h : Header). reading (read_chains c.args.file.now h)) c.file_header-header.ensures
    ∙ sym (ap reading (read_by _ (started) (legal) (eq-eqb _ _ (c.if-file-stated_length.false ∙ stated))))
