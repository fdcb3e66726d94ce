-- What holds on `Ok`.
use Rattle.std.proofs.Common.{Result, Ok, Err, OnOk}

pub on-ok : {T E P Q : Type 0} (r : Result T E) → (P → Q) → OnOk r P → OnOk r Q
on-ok (Ok x) f h = f h
on-ok (Err e) f h = h

pub always-ok : {T E Q : Type 0} (r : Result T E) → Q → OnOk r Q
always-ok (Ok x) h = h
always-ok (Err e) h = tt
