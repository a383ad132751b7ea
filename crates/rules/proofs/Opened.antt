-- One name that opens the definitions: a theorem that says `unfolding opened` computes with all that the line below names.
use Rattle.lists.specs.Tests.{below}
use Rattle.units.specs.Rules.{ceil_div, parallel, arm_side, share, delay}
use Rattle.format.specs.Circuit.{every}
use Rattle.format.specs.Legal.{limits_kept, node_legal, transistor_legal, entry_legal, fields_legal, rising_from, rising, check_circuit}
use Rattle.format.specs.File as file
use Rattle.diagram.specs.Table.{number_from}
use Rattle.diagram.specs.Sound as sound
use Rattle.diagram.specs.Store.{find, add, join, both, store}
use Rattle.diagram.specs.Operation.{two_valued}
use Rattle.diagram.specs.Call.{columns_of}
use Rattle.diagram.specs.Held.{entries, all_blank, held_sound}
use Rattle.rules.specs.State.{up_from}
use Rattle.rules.specs.Arrive.{source_at, scheduled, arrived}
use Rattle.rules.specs.Label.{link_from, some, only}
use Rattle.rules.specs.Reach.{reach, touched}
use Rattle.rules.specs.Kept.{kept_from, kept}
use Rattle.rules.specs.Sum.{over_arms, node_sum, new_value}
use Rattle.rules.specs.Delay.{node_load}
use Rattle.rules.specs.Step.{target, exceeds, step_exceeds, start_exceeds, delay_by, delay_to, next_change, stepped, initial, started}
use Rattle.rules.specs.Run.{start_within, step_within, soonest, pattern_time, least_below, next_time, state_of, store_all, moment_of, start_moment, time_after, step_moment, times_legal, inputs_rest, run_sound}
use Rattle.rules.specs.Call.{start_call, step_call}

unfoldable pub opened : Unit {0}
unfolding ceil_div parallel arm_side share delay every limits_kept node_legal transistor_legal entry_legal fields_legal rising_from rising check_circuit number_from sound.entry_legal sound.distinct sound.fixed_terminals sound.sound find add join both store below two_valued entries columns_of all_blank held_sound up_from source_at scheduled arrived link_from some only reach touched kept_from kept over_arms node_sum new_value node_load target delay_by delay_to next_change exceeds stepped step_exceeds initial started start_exceeds soonest pattern_time least_below next_time state_of store_all moment_of start_moment time_after step_moment start_within step_within times_legal inputs_rest run_sound start_call step_call file.zero_bytes file.file_header file.header_legal file.chain file.node_at file.transistor_at file.entry_at file.node_blank file.transistor_blank file.entry_blank file.file_circuit file.read_fields file.read_chains file.read_cell
opened = tt
