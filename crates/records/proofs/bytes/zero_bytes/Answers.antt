-- `zero_bytes` meets its contract: `all` asks each byte.
use Rattle.std.proofs.Common.{ℕ, ◌≡◌, true, eqb, get_or, take, drop, ◌∙◌, rules}
use Rattle.std.specs.Prelude.{IsTrue, ◌↔◌, EachIndex}
use Rattle.records.proofs.All.{all_every}
use Rattle.records.proofs.Zeros.{zeros_every}
use Rattle.records.proofs.bytes.zero_bytes.Goals as goal

pub returns : goal.returns
returns c =
    let run = take c.args.n (drop c.args.i c.args.file.now) in
    let e : IsTrue c.all.result ↔ EachIndex run (λ k. eqb (get_or run k 0) 0 ≡ true) = search rules in
    all_every (λ (b : ℕ). eqb b 0) 0 run c.all.result e ∙ zeros_every c.args.file.now c.args.n c.args.i c.requires
