-- Rows, a hierarchy and a sweep may be shared by threads. The prover's own search for that takes long, so it is made here once.
use denote.Param.Send.{IsSync, sendable}
use denote.Param.SendFields.{as_row_sync, declared_sync}
use Rattle.std.proofs.Crossing.{crosses}
use Rattle.csr_graph.specs.contracts.csr.Csr as csr
use Rattle.csr_graph.specs.contracts.target.Target as target
use Rattle.hierarchy.specs.contracts.hierarchy.Hierarchy as hierarchy
use Rattle.hierarchy.specs.contracts.toward.TargetSweep as sweep

target_sync : IsSync target.the_row
target_sync = search (as_row_sync, declared_sync, sendable) depth 9

pub csr_sync : IsSync csr.the_row
csr_sync = search (target_sync, as_row_sync, declared_sync, crosses, sendable) depth 12

pub hierarchy_sync : IsSync hierarchy.the_row
hierarchy_sync = search (csr_sync, as_row_sync, declared_sync, crosses, sendable) depth 12

pub sweep_sync : IsSync sweep.the_row
sweep_sync = search (hierarchy_sync, as_row_sync, declared_sync, crosses, sendable) depth 12
