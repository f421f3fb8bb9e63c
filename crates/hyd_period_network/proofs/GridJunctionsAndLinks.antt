-- How many junctions and links the grid of a net has, and which.
use Rattle.std.proofs.Common.{◌≡◌, ℕ, zero, suc, List, [], ◌∷◌, length, Some, slice_get, IfSome, refl, ap, arith}
use Rattle.hyd_spec_certificates.specs.PeriodNetwork.{GridLink, GridJunction}
use Rattle.hyd_law.specs.declared.link_law_kinds.LinkLaw.{LinkLaw}
use Rattle.hyd_law.specs.declared.demand_law_kinds.OutLaw.{OutLaw}
use Rattle.hyd_period_network.specs.declared.junctions_ends_and_settings.NetJunction.{NetJunction}
use Rattle.hyd_period_network.specs.declared.junctions_ends_and_settings.Ends.{Ends}
use Rattle.hyd_period_network.specs.declared.junctions_ends_and_settings.Setting.{Setting}
use Rattle.hyd_period_network.specs.NetAsPeriodNetwork.{junction_of, junctions_of, link_of, links_of}

pub junctions_count : (junctions : List NetJunction) (demands : List OutLaw) → length demands ≡ length junctions
    → length (junctions_of junctions demands) ≡ length junctions
junctions_count [] demands e = refl
junctions_count (j ∷ junctions) [] e = absurd (omega arith)
junctions_count (j ∷ junctions) (d ∷ demands) e = ap suc (junctions_count junctions demands (omega arith))

pub links_count : (ends : List Ends) (settings : List Setting) (own : List LinkLaw) → length settings ≡ length ends
    → length own ≡ length ends
    → length (links_of ends settings own) ≡ length ends
links_count [] settings own e f = refl
links_count (x ∷ ends) [] own e f = absurd (omega arith)
links_count (x ∷ ends) (s ∷ settings) [] e f = absurd (omega arith)
links_count (x ∷ ends) (s ∷ settings) (o ∷ own) e f = ap suc (links_count ends settings own (omega arith) (omega arith))

-- a junction of the grid is made of a junction and a demand of the net
pub at_junction : (junctions : List NetJunction) (demands : List OutLaw) (k : ℕ) (P : GridJunction → Type 0)
    → ((j : NetJunction) (d : OutLaw) → slice_get junctions k ≡ Some j → slice_get demands k ≡ Some d
    → P (junction_of j d))
    → IfSome (slice_get (junctions_of junctions demands) k) P
at_junction [] demands k P all = tt
at_junction (j ∷ junctions) [] k P all = tt
at_junction (j ∷ junctions) (d ∷ demands) zero P all = all j d refl refl
at_junction (j ∷ junctions) (d ∷ demands) (suc k) P all = at_junction junctions demands k P all

-- a link of the grid is made of a link's ends, its setting and its own law
pub at_link : (ends : List Ends) (settings : List Setting) (own : List LinkLaw) (k : ℕ) (P : GridLink → Type 0)
    → ((e : Ends) (s : Setting) (o : LinkLaw) → slice_get ends k ≡ Some e → slice_get settings k ≡ Some s
    → slice_get own k ≡ Some o → P (link_of e s o))
    → IfSome (slice_get (links_of ends settings own) k) P
at_link [] settings own k P all = tt
at_link (x ∷ ends) [] own k P all = tt
at_link (x ∷ ends) (s ∷ settings) [] k P all = tt
at_link (x ∷ ends) (s ∷ settings) (o ∷ own) zero P all = all x s o refl refl refl
at_link (x ∷ ends) (s ∷ settings) (o ∷ own) (suc k) P all = at_link ends settings own k P all
