-- `card::refusals::ready_card` meets its contract.
use native.Mathlib.Omega.{arith}
use mathlib.Core.Path.{refl}
use Rattle.card.proofs.CodedLaws.{holds, schema-reads, schema-hashed, leasts-room, coded}
use Rattle.card.proofs.refusals.ready_card.Goals as goal

pub least_codes-requires : goal.least_codes-requires
least_codes-requires c =
    let told = c.in_ok-ready.ensures in record {
      schema_value = schema-reads _ _ _ _ told;
      hashed_entries = schema-hashed _ _ _ _ told;
      holds_terms = holds _ _ _ _ told;
      count_in_bounds = leasts-room _ _ _ _ told c.args.leasts.now c.requires.leasts_len;
      from_le_count = omega arith;
      out_value = refl;
    }

pub returns : goal.returns
returns c = coded _ _ _ _ c.in_ok-ready.ensures c.args.leasts.now c.least_codes.ensures
