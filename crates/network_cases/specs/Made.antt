-- What a network made of a list of gaps tells. Assumes nothing.
--     fits n g     a network with events 0 to n can have the gap
--     made_of x     the meaning of the network
use Rattle.std.specs.Prelude.{ℕ, ◌-◌, min, Bool, cond, ◌&&◌, pos, Some, None, nat_le, slice_index_or, unsigned_abs}
use Rattle.network.specs.declared.gap.Gap.{Gap}
use Rattle.network.specs.declared.gap.Owner.TheVariants.{Line}
use Rattle.network.specs.Meanings.{Meaning, unowned}
use Rattle.network_cases.specs.declared.gaps.Made.{Made}

abbrev pub fits : ℕ → Gap → Bool
fits events g = (nat_le g.left events && nat_le g.reached events) && nat_le (unsigned_abs g.days) 99999

abbrev pub no_gap : Gap
no_gap = record { left = 0; reached = 0; days = pos 0 }

abbrev pub placed : ℕ → ℕ → Bool
placed place places = nat_le 1 place && nat_le place places

abbrev pub made_of : Made → Meaning
made_of x = record {
  events = min x.events 1023;
  places = min x.places 4096;
  gap = λ place. cond (placed place (min x.places 4096) && fits (min x.events 1023) (slice_index_or x.gaps (place - 1) no_gap)) (Some (slice_index_or x.gaps (place - 1) no_gap)) None;
  owner = λ place. cond (placed place (min x.places 4096)) (Line place) unowned;
}
