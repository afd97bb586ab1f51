use Rattle.std.proofs.Common.{◌≡◌, Option, Some, None, Result, Ok, Err, Bool, true, false, refl, cond}
use Rattle.std.specs.Option.{ok_or}
use Rattle.std.specs.Prelude.{IfOk, IfSome}
use Rattle.norm_script.specs.Steps.{◌>>=◌}

-- what a chain of steps gives

pub IfOk-bind : {X Y E : Type 0} (P : X → Type 0) (Q : Y → Type 0) (r : Result X E) (f : X → Result Y E) → IfOk r P
    → ((x : X) → P x → IfOk (f x) Q) → IfOk (r >>= f) Q
IfOk-bind P Q (Ok x) f p h = h x p
IfOk-bind P Q (Err e) f p h = tt

pub IfOk-itself : {X E : Type 0} (r : Result X E) → IfOk r (λ x. r ≡ Ok x)
IfOk-itself (Ok x) = refl
IfOk-itself (Err e) = tt

pub IfOk-ok_or : {X E : Type 0} (P : X → Type 0) (o : Option X) (e : E) → IfSome o P → IfOk (ok_or o e) P
IfOk-ok_or P (Some x) e p = p
IfOk-ok_or P None e p = tt

pub IfSome-itself : {X : Type 0} (o : Option X) → IfSome o (λ x. o ≡ Some x)
IfSome-itself (Some x) = refl
IfSome-itself None = tt

pub IfOk-cond : {X E : Type 0} (P : X → Type 0) (b : Bool) (r s : Result X E) → (b ≡ true → IfOk r P) → (b ≡ false → IfOk s P) → IfOk (cond b r s) P
IfOk-cond P true r s h k = h refl
IfOk-cond P false r s h k = k refl

pub IfSome-cond : {X : Type 0} (P : X → Type 0) (b : Bool) (o p : Option X) → (b ≡ true → IfSome o P) → (b ≡ false → IfSome p P) → IfSome (cond b o p) P
IfSome-cond P true o p h k = h refl
IfSome-cond P false o p h k = k refl

pub IfOk-unit : {X E : Type 0} (r : Result X E) → IfOk r (λ x. Unit {0})
IfOk-unit (Ok x) = tt
IfOk-unit (Err e) = tt

pub IfOk-given : {X E : Type 0} (P : X → Type 0) (K : Type 0) (r : Result X E) → IfOk r (λ x. K → P x) → K → IfOk r P
IfOk-given P K (Ok x) h k = h k
IfOk-given P K (Err e) h k = tt
