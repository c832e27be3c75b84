use Rattle.rules.proofs.Views.{decimals_spell, row_lengths, rows_bytes, mask_bits}
use Rattle.rules.proofs.view_bytes.Goals as goal

pub returns : goal.returns
returns c = record { decimals = decimals_spell; lengths = row_lengths; bytes = rows_bytes; bits = mask_bits }
