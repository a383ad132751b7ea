-- A run and a list of calls on it: each call gets the cell that the run was started from, and the run and table that the last call left.
use Rattle.std.specs.Prelude.{ℕ, ◌≡◌, List, [], ◌∷◌, length}
use Rattle.diagram.specs.Store.{fresh}
use Rattle.diagram.specs.Call.{Columns}
use Rattle.commute.specs.Interface.{Held, Interface}

-- a call of a list, with its working table: a step, the step in place, or a run up to a picosecond
pub data Call : Type 0 where
  step : Columns → Call
  in_place : Columns → Call
  up_to : ℕ → Columns → Call

abbrev pub working_of : Call → Columns
working_of (step working) = working
working_of (in_place working) = working
working_of (up_to until working) = working

-- a call as its contract tells of it: what is held before and after, and its number; its working may be left with anything
abbrev pub Made : {Source R : Type 0} → Interface Source R → Source → Call → Held R → Held R → ℕ → Type 0
Made K s (step working) h h' number = (working' : Columns) × K.Step s h h' working working' number
Made K s (in_place working) h h' number = (working' : Columns) × K.InPlace s h h' working working' number
Made K s (up_to until working) h h' number = (working' : Columns) × K.UpTo s until h h' working working' number

-- what a list of calls leaves, each of them answered or refused
pub data After {Source R : Type 0} (K : Interface Source R) (s : Source) : Held R → List Call → Held R → Type 0 where
  none : {h : Held R} → After K s h [] h
  next : {h h' last : Held R} {calls : List Call} (call : Call) (number : ℕ) → Made K s call h h' number → After K s h' calls last → After K s h (call ∷ calls) last

-- an answered start in a fresh table of a length, made in columns that were lent; the record may have held anything
pub record Begun {Source R : Type 0} (K : Interface Source R) (s : Source) (size : ℕ) (h : Held R) : Type 0 where
  pub lent : Columns
  pub long : length lent.letter ≡ size
  pub made : Held R
  pub fresh_table : K.Fresh lent made.table 0
  pub working : Columns
  pub working' : Columns
  pub start : K.Start s (length fresh) made h working working' 0

-- what is held after a list of calls on a run that was started in a fresh table of a length; a refused start leaves no run
pub record Reached {Source R : Type 0} (K : Interface Source R) (s : Source) (size : ℕ) (h : Held R) : Type 0 where
  pub first : Held R
  pub begun : Begun K s size first
  pub calls : List Call
  pub after : After K s first calls h
