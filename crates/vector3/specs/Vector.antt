-- Vectors of three floats, component by component, each operation rounded. Definitions only.
use Rattle.std.specs.Prelude.{Float}
use Rattle.std.specs.Float.Ieee.{neg}
use Rattle.float32.specs.Operators.{◌⊕◌, ◌⊖◌, ◌⊗◌, ◌⊘◌}
use Rattle.vector3.specs.declared.Vector3f.{Vector3f}

-- document 01, Numbers: "a dot product summed x, y, z"
abbrev pub Vector3f-dot : Vector3f → Vector3f → Float
Vector3f-dot v w = v.x ⊗ w.x ⊕ v.y ⊗ w.y ⊕ v.z ⊗ w.z

-- document 01, Numbers: "a vector divided component by component"
abbrev pub Vector3f-div : Vector3f → Float → Vector3f
Vector3f-div v s = record { x = v.x ⊘ s; y = v.y ⊘ s; z = v.z ⊘ s }

-- pbrt's `Vector3f + Vector3f`, `Vector3f - Vector3f`, `Vector3f * Float` and `-Vector3f`
abbrev pub Vector3f-add : Vector3f → Vector3f → Vector3f
Vector3f-add v w = record { x = v.x ⊕ w.x; y = v.y ⊕ w.y; z = v.z ⊕ w.z }

abbrev pub Vector3f-sub : Vector3f → Vector3f → Vector3f
Vector3f-sub v w = record { x = v.x ⊖ w.x; y = v.y ⊖ w.y; z = v.z ⊖ w.z }

abbrev pub Vector3f-mul : Vector3f → Float → Vector3f
Vector3f-mul v s = record { x = v.x ⊗ s; y = v.y ⊗ s; z = v.z ⊗ s }

abbrev pub Vector3f-neg : Vector3f → Vector3f
Vector3f-neg v = record { x = neg v.x; y = neg v.y; z = neg v.z }
