-- The three ways to say a source.
use mathlib.Core.Path.{◌≡◌}
use mathlib.Core.List.{◌++◌}
use Prim.Native.Nat.{ℕ}
use borrow.Author.Tests.{eq-eqb, ne_eqb}
use Rattle.format.specs.Source.{letter_of}
use Rattle.text.specs.Decimal.{ended}
use Rattle.fields.specs.Words.{low_word, high_word}
use Rattle.fields.specs.Line.{letter_form, source_end}

pub source_low : (source : ℕ) → source ≡ 0 → source_end source ≡ low_word
unfolding source_end
source_low source e = rw (eq-eqb source 0 e)

pub source_high : (source : ℕ) → (source ≡ 0 → ⊥) → source ≡ 1 → source_end source ≡ high_word
unfolding source_end
source_high source n e = rw (ne_eqb source 0 n, eq-eqb source 1 e)

pub source_letter : (source : ℕ) → (source ≡ 0 → ⊥) → (source ≡ 1 → ⊥) → source_end source ≡ letter_form source ++ ended (letter_of source)
unfolding source_end
source_letter source n m = rw (ne_eqb source 0 n, ne_eqb source 1 m)
