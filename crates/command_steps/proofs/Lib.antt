mod Planned
