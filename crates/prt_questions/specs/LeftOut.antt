-- Lines that are left out.
use Rattle.std.specs.Prelude.{◌≡◌, Bool, true, false, List}
use Rattle.std.specs.List.{list_all}
use Rattle.prt_import.specs.declared.omitted_line.OmittedLine.{OmittedLine}
use Rattle.prt_import.specs.declared.reason.Reason.{Reason}
use Rattle.prt_import.specs.declared.reason.Reason.TheVariants.{Kernel}

abbrev pub is_kernel : Reason → Bool
is_kernel Kernel = true
is_kernel reason = false

-- the kernel makes a line itself
abbrev pub is_kernels : OmittedLine → Bool
is_kernels line = is_kernel line.reason

-- no line is left out except those
abbrev pub AreKernels : List OmittedLine → Type 0
AreKernels lines = list_all is_kernels lines ≡ true
