-- What the network that a profile names keeps of its starts.
use Rattle.std.proofs.Common.{◌≡◌, ◌∙◌, sym, subst, List, [], ◌∷◌, ◌++◌, cond, None}
use Rattle.norm_base.specs.Settings.{Settings}
use Rattle.norm_base.specs.declared.kinds.FabricKind.{FabricKind}
use Rattle.norm_base.specs.declared.kinds.FabricKind.TheVariants as kind
use Rattle.norm_base.specs.declared.kinds.Local.{Local}
use Rattle.norm_base.proofs.CopyLemmas.{members_last}
use Rattle.norm_memory.specs.Networks.{NetworkState, started}
use Rattle.norm_host.specs.Hosting.{SharesMembers, PassesNothing, is_direct}
use Rattle.norm_udp.specs.Passing.{passed_by, misfit_by}
use Rattle.norm_udp.specs.declared.fabric.UdpFabric.{UdpFabric}

at_start : (starts : List (Settings × Local)) (k : FabricKind) (direct : NetworkState) (profile : Settings) (local : Local)
    → SharesMembers (starts ++ (profile, local) ∷ []) k (cond (is_direct k) (started direct profile local) direct)
at_start starts kind.Direct direct profile local = members_last starts (profile, local) ∙ sym (members_last direct.starts (profile, local))
at_start starts kind.Chance direct profile local = tt
at_start starts kind.Udp direct profile local = tt

-- a start of the network that the profile names
pub shared_at_start : (starts items : List (Settings × Local)) (k : FabricKind) (direct new : NetworkState) (profile : Settings) (local : Local)
    → items ≡ starts ++ (profile, local) ∷ [] → k ≡ profile.fabric → new ≡ cond (is_direct profile.fabric) (started direct profile local) direct
    → SharesMembers items k new
shared_at_start starts items k direct new profile local is fabric begun =
    subst (λ (all : List (Settings × Local)). SharesMembers all k new) (sym is)
    (subst (λ (named : FabricKind). SharesMembers (starts ++ (profile, local) ∷ []) named new) (sym fabric)
    (subst (λ (n : NetworkState). SharesMembers (starts ++ (profile, local) ∷ []) profile.fabric n) (sym begun)
    (at_start starts profile.fabric direct profile local)))

-- sockets that were closed, or begun anew, passed over nothing
pub passes_begun : {R : Type 0} (k : FabricKind) (udp : UdpFabric R) → passed_by udp ≡ 0 → misfit_by udp ≡ None → PassesNothing k udp
passes_begun k udp count misfit is = (count, misfit)
