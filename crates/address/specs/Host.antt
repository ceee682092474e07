-- Hosts: the types that have a name, and the host kinds on the wire (the draft's DT and DL, ST and SL).
use Rattle.std.specs.Prelude.{ℕ, ◌≡◌, cond, eqb, Option, Some, None}
use Rattle.address.specs.declared.host.HostAddr.{HostAddr}
use Rattle.address.specs.declared.host.HostAddr.TheVariants as addr
use Rattle.address.specs.declared.host.HostType.{HostType}
use Rattle.address.specs.declared.host.HostType.TheVariants as type

-- the type's own number
abbrev pub host_type_number : HostType → ℕ
host_type_number type.None = 0
host_type_number type.Ipv4 = 1
host_type_number type.Ipv6 = 2
host_type_number type.Svc = 3

-- the type of a number, and none above 3
unfoldable pub host_type_of : ℕ → Option HostType
host_type_of byte =
    cond (eqb byte 0) (Some type.None)
    (cond (eqb byte 1) (Some type.Ipv4)
    (cond (eqb byte 2) (Some type.Ipv6) (cond (eqb byte 3) (Some type.Svc) None)))

-- the type of a type's own number is the type
abbrev pub TypesReadBack : Type 0
TypesReadBack = (t : HostType) → host_type_of (host_type_number t) ≡ Some t

abbrev pub type_of_host : HostAddr → HostType
type_of_host addr.V4 = type.Ipv4
type_of_host addr.V6 = type.Ipv6
type_of_host (addr.Svc number) = type.Svc

-- the host kind on the wire: IPv4 0, IPv6 3, service 4
abbrev pub host_kind : HostAddr → ℕ
host_kind addr.V4 = 0
host_kind addr.V6 = 3
host_kind (addr.Svc number) = 4

abbrev pub kind_of_type : HostType → Option ℕ
kind_of_type type.None = None
kind_of_type type.Ipv4 = Some 0
kind_of_type type.Ipv6 = Some 3
kind_of_type type.Svc = Some 4
