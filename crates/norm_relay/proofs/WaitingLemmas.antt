-- Hand-ups as they wait.
use Rattle.std.proofs.Common.{◌≡◌, ℕ, List, Bool, true, false, Option, None, Some, refl, sym, ap, ◌∙◌}
use Rattle.norm_base.specs.declared.kinds.Kind.{Kind}
use Rattle.norm_base.specs.declared.kinds.Kind.TheVariants as kind
use Rattle.norm_order.specs.declared.up.Up.{Up}
use Rattle.norm_order.specs.declared.up.Up.TheVariants as up
use Rattle.norm_relay.specs.Flat.{leaves_open}
use Rattle.norm_relay.specs.Pumping.{object_job, job_of}
use Rattle.norm_relay.specs.Waiting.{waiting_of, job_at, job_opens, opens}
use Rattle.norm_relay.specs.declared.waiting.Waiting.{Waiting}

-- a hand-up as a job, by how it waits
pub job_waiting : (opened : Bool) (u : Up) → job_of opened u ≡ job_at opened (waiting_of u)
job_waiting opened (up.Object index k info bytes) = refl
job_waiting opened (up.StreamOpen index) = refl
job_waiting opened (up.StreamBytes index offset bytes) = refl
job_waiting opened (up.StreamEnd index) = refl
job_waiting true (up.Lost index) = refl
job_waiting false (up.Lost index) = refl

-- whether a stream is open after it
pub opens_waiting : (u : Up) → leaves_open u ≡ opens (waiting_of u)
opens_waiting (up.Object index k info bytes) = go k info
  where
    go : (k : Kind) (info : Option (List ℕ)) → false ≡ job_opens (object_job k info bytes)
    go kind.File (Some name) = refl
    go kind.File None = refl
    go kind.Data info = refl
opens_waiting (up.StreamOpen index) = refl
opens_waiting (up.StreamBytes index offset bytes) = refl
opens_waiting (up.StreamEnd index) = refl
opens_waiting (up.Lost index) = refl

-- the same of what waits
pub job_by : (opened : Bool) (w : Waiting) (u : Up) → w ≡ waiting_of u → job_of opened u ≡ job_at opened w
job_by opened w u is = job_waiting opened u ∙ ap (job_at opened) (sym is)

pub opens_by : (w : Waiting) (u : Up) → w ≡ waiting_of u → opens w ≡ leaves_open u
opens_by w u is = ap opens is ∙ sym (opens_waiting u)
