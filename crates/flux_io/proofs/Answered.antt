-- What holds of a result whichever it is.
use Rattle.std.proofs.Common.{Ok, Err, OnOk, OnErr, IfOk, IsErrOf}
use Rattle.std.specs.Prelude.{Result}

pub on_ok_any : {T E P : Type 0} (r : Result T E) → P → OnOk r P
on_ok_any (Ok x) p = p
on_ok_any (Err e) p = tt

pub on_err_any : {T E P : Type 0} (r : Result T E) → P → OnErr r P
on_err_any (Ok x) p = tt
on_err_any (Err e) p = p

pub if_ok_any : {T E : Type 0} {P : T → Type 0} (r : Result T E) → ((x : T) → P x) → IfOk r P
if_ok_any (Ok x) p = p x
if_ok_any (Err e) p = tt

pub err_gives : {T E P : Type 0} (r : Result T E) (e : E) → OnErr r P → IsErrOf r e → P
err_gives (Ok x) e p is = absurd (cc)
err_gives (Err other) e p is = p
