-- `write`: where it fails, a front of what it says is said, the whole of it or less.
use Rattle.std.proofs.Common.{ℕ, List, Option, Result, Ok, Err, OnOk, OnErr, length, take, sym, subst}
use lib.Seq.{take-length}
use Rattle.std.specs.Io.KnownBytes.{Appends}
use Rattle.standard_streams.proofs.write.Goals as goal

front : {U E : Type 0} (r : Result U E) (a b : Option (List ℕ)) (text : List ℕ) → OnOk r (Appends a b text) → OnErr r ((n : ℕ) × Appends a b (take n text))
    → (n : ℕ) × Appends a b (take n text)
front (Ok u) a b text whole part = (length text, subst (Appends a b) (sym (take-length text)) whole)
front (Err e) a b text whole part = part

on_err : {U E P : Type 0} (r : Result U E) → P → OnErr r P
on_err (Ok u) p = tt
on_err (Err e) p = p

pub returns-then-is_err-clause-said : goal.returns-then-is_err-clause-said
returns-then-is_err-clause-said g c = on_err c.put-written.result (front c.put.result _ _ _ c.put.ensures.bytes c.put.ensures.err)
