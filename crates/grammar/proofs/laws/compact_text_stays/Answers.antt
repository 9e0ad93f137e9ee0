use Rattle.grammar.proofs.Compact.{compact_shows, compact_reads, compact_stays}
use Rattle.grammar.proofs.laws.compact_text_stays.Goals as goal

pub returns : goal.returns
returns c = record { shows = compact_shows; reads = compact_reads; stays = compact_stays }
